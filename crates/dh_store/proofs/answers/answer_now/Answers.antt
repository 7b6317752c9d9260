use Rattle.std.proofs.Common.{◌∙◌, refl, sym, ap, None, option_map}
use Rattle.sqlite.specs.Held.{state}
use Rattle.dh_model.specs.declared.open_run.OpenRun.{OpenRun}
use Rattle.dh_model.specs.Answers.{report}
use Rattle.dh_model.specs.Books.{State}
use Rattle.dh_laws.proofs.FactLemmas.Asked.{answered_by_its_rows}
use Rattle.dh_schema.specs.Store.{tables}
use Rattle.dh_schema.proofs.Keyed.{books_are_keyed}
use Rattle.dh_store.proofs.AnsweredFrom.{answered_alike}
use Rattle.dh_store.proofs.answers.answer_now.Goals as goal

pub returns-clause-answer : goal.returns-clause-answer
returns-clause-answer g c clean free =
    let old = state g.S.Store c.args.conn.now in
    let question = c.args.question.now in
    let answered = answered_by_its_rows (tables old).books (tables old).open_run None question (books_are_keyed old.now.trees)
    (λ off. ap (option_map (λ (at : OpenRun). at.month)) (sym (free off))) in
    let gathered = (c.in_ok-gather.ensures.gathered (tables old) (λ _. (refl, c.no_rows-books.ensures)) clean).1 in
    c.in_ok-answer_passed.ensures ∙ ap (λ (s : State). report (record s { open_run = None }) question) gathered
    ∙ answered_alike (tables old).books None question ∙ answered
