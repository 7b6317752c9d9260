use Rattle.dh_schema.proofs.changes.ChangeRowsPut.put.Goals as goal

pub put_rows-requires-clause-fits : goal.put_rows-requires-clause-fits
put_rows-requires-clause-fits g c clean = (c.requires.room clean).0

pub put_rows-requires-clause-place : goal.put_rows-requires-clause-place
put_rows-requires-clause-place g c clean = (c.requires.room clean).1
