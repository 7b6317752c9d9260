use Rattle.std.proofs.Common.{◌≡◌, ◌∙◌, rules, ap}
use Rattle.sqlite.specs.Effect.{Database}
use Rattle.sqlite.proofs.Callers.{memory_is_clean}
use Rattle.dh_ddl.specs.Versions.{schema_of}
use Rattle.dh_ddl.proofs.ours.store_of.Goals as goal

pub returns : goal.returns
returns c =
    let made = c.in_ok-create_all.ensures.made (memory_is_clean c.create_all.new.tx.conn.now) in
    let shown = c.in_ok-commit.ensures.ok (memory_is_clean c.commit.new.self.0) in
    let has : c.commit.new.self.0.schema ≡ schema_of c.args.version = ap (λ (d : Database). d.schema) shown.1.now_is ∙ made.0.schema_is in
    search rules
