use Rattle.std.proofs.Common.{◌∙◌, refl, sym, ap, subst, List, ℕ, Option, Err, OnOk}
use Rattle.std.proofs.lemmas.Result.{err_from_is_err_and}
use Rattle.std.specs.FinMap.{FinMap}
use Rattle.sqlite.specs.Held.{state}
use Rattle.dh_types.specs.declared.staff.Staff.{Staff}
use Rattle.dh_types.specs.declared.property.Property.{Property}
use Rattle.dh_model.specs.Books.{text_cmp}
use Rattle.dh_model.specs.Checks.{is_same_text}
use Rattle.dh_model.specs.Whole.{rows_where}
use Rattle.dh_schema.specs.Looked.{AreBoth}
use Rattle.dh_schema.specs.Reading.{OnlyReads}
use Rattle.dh_store.specs.Gathered.{with_managed}
use Rattle.dh_schema.proofs.ReadsInTurn.{reads_then}
use Rattle.dh_store.proofs.verdicts.rows.managed.Goals as goal

pub returns-in_ok-look-in-Some-clause-gathered : goal.returns-in_ok-look-in-Some-clause-gathered
returns-in_ok-look-in-Some-clause-gathered g c t b both staff none =
    let property = c.args.property in
    let new = c.look-in-Some-2.new in
    let member = c.in_ok-look-in-Some.ensures.brought.first t _ (c.in_ok-look.ensures.brought.first t b both none) staff in
    subst
    (λ (m : Option (List ℕ)). OnOk c.look-in-Some-2.result (AreBoth t (with_managed property m t b) (state g.S.Store new.conn) new.books))
    (sym c.in-Some.is) (c.look-in-Some-2.ensures.brought.more t _ (λ (p : Property). is_same_text p.number property) member refl)

pub returns-in-None-clause-gathered : goal.returns-in-None-clause-gathered
returns-in-None-clause-gathered g c t b both staff none clean =
    let property = c.args.property in
    let one = c.in_ok-look.ensures.brought.first t b both none clean in
    let rows = rows_where (λ (p : Property). is_same_text p.number property) t.books.properties in (
      one.0,
      one.1 ∙ ap (λ (m : FinMap text_cmp Staff). record b { books = record b.books { staff = m; properties = rows } }) staff
          ∙ ap (λ (m : Option (List ℕ)). with_managed property m t b) (sym c.in-None.is),
    )

pub returns-in_ok-look-in-Some-clause-reads : goal.returns-in_ok-look-in-Some-clause-reads
returns-in_ok-look-in-Some-clause-reads g c =
    let member = reads_then c.in_ok-look.ensures.reads c.in_ok-look-in-Some.ensures.reads in
    reads_then member c.look-in-Some-2.ensures.reads

pub returns-in_err-look-in-Some-clause-reads : goal.returns-in_err-look-in-Some-clause-reads
returns-in_err-look-in-Some-clause-reads g c =
    let is = err_from_is_err_and c.from_residual-in_err-look-in-Some.result c.from_residual-in_err-look-in-Some.ensures.1 in
    subst (OnlyReads (state g.S.Store c.args.conn.now) (state g.S.Store c.look-in-Some.new.conn)) (sym (is.1 ∙ ap Err is.2))
    (reads_then c.in_ok-look.ensures.reads c.in_err-look-in-Some.ensures.reads)
