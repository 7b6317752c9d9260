use Rattle.std.proofs.Common.{◌∙◌, Some, ap, sym}
use Rattle.sqlite.specs.Held.{state}
use Rattle.dh_ddl.specs.Versions.{schema_of}
use Rattle.std.proofs.lemmas.Result.{IfOk-weaker}
use Rattle.dh_model.proofs.MapRows.{inside}
use Rattle.dh_schema.proofs.ReadTables.{no_version}
use Rattle.dh_schema.proofs.loaded_books.agreed_version.Goals as goal

pub returns-clause-given : goal.returns-clause-given
returns-clause-given g c clean =
    IfOk-weaker c.agreed.result _ _ (λ version is. c.in_ok-found.ensures.found clean ∙ ap Some is.1) c.agreed.ensures.same

pub returns-clause-damaged : goal.returns-clause-damaged
returns-clause-damaged g c clean told = (
  c.in_ok-found.ensures.ours,
  no_version (state g.S.Store c.args.conn.now).now.trees (λ version is.
      c.agreed.ensures.damaged told version (inside _ _ (sym (c.in_ok-found.ensures.found clean) ∙ is))),
)

pub returns-clause-another : goal.returns-clause-another
returns-clause-another g c clean gives =
    c.agreed.ensures.another gives.0 (inside _ _ (sym (c.in_ok-found.ensures.found clean) ∙ gives.1))
    (λ is. gives.2 (c.in_ok-found.ensures.tables ∙ ap schema_of (sym is)))
