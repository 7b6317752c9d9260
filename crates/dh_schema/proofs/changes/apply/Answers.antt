use Rattle.dh_schema.proofs.changes.apply.Goals as goal

pub commit-requires-clause-room : goal.commit-requires-clause-room
commit-requires-clause-room g c was = (c.requires.fits was, c.requires.place was)
