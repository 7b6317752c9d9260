use Rattle.std.proofs.Common.{◌∙◌, Err, Some, ap, rules, sym}
use Rattle.std.proofs.lemmas.Result.{err_from_is_err_and}
use Rattle.sqlite.specs.Effect.{Database}
use Rattle.dh_tables.specs.MetaTable.{meta_rows}
use Rattle.dh_schema.specs.Version.{only_version}
use Rattle.dh_schema.proofs.ReadTables.{same_fault}
use Rattle.dh_schema.proofs.Versions.{version_moved}
use Rattle.dh_schema.proofs.loaded_books.version.Goals as goal

pub found-requires-clause-number : goal.found-requires-clause-number
found-requires-clause-number g c clean =
    ap (λ (d : Database). only_version (meta_rows d.trees)) (c.in_ok-rows.ensures.same clean).0.now_is
    ∙ version_moved _ _ (rw (← c.deref.ensures.value) at (c.in_ok-rows.ensures.rows clean)) ∙ c.in_ok-number.ensures.found
    ∙ ap Some (search rules)

pub returns-clause-found : goal.returns-clause-found
returns-clause-found g c clean =
    version_moved _ _ (rw (← c.deref.ensures.value) at (c.in_ok-rows.ensures.rows clean)) ∙ c.in_ok-number.ensures.found
    ∙ ap Some (search rules)

pub returns-in_err-number-clause-damaged : goal.returns-in_err-number-clause-damaged
returns-in_err-number-clause-damaged g c clean told =
    let same = version_moved _ _ (rw (← c.deref.ensures.value) at (c.in_ok-rows.ensures.rows clean)) in
    let is = err_from_is_err_and c.from_residual-in_err-number.result c.from_residual-in_err-number.ensures.1 in
    (c.in_ok-tables.ensures.ours, same ∙ c.in_err-number.ensures.damaged (ap Err (same_fault (sym (is.1 ∙ ap Err is.2) ∙ told))))
