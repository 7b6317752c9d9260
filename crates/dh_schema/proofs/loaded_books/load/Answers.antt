use Rattle.std.proofs.Common.{◌∙◌, ap}
use Rattle.sqlite.specs.Effect.{Database}
use Rattle.dh_schema.proofs.loaded_books.load.Goals as goal

pub load_tables-requires-clause-reading : goal.load_tables-requires-clause-reading
load_tables-requires-clause-reading g c clean =
    ap (λ (d : Database). d.schema) (c.in_ok-version.ensures.same clean).0.now_is ∙ c.in_ok-version.ensures.found
