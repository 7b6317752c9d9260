use Rattle.std.proofs.Common.{◌∙◌, refl, ap, nat_eq}
use Rattle.std.specs.List.{sum_by}
use Rattle.sqlite.specs.Held.{state}
use Rattle.dh_types.specs.declared.run.Part.{Part}
use Rattle.dh_model.specs.Books as machine
use Rattle.dh_model.specs.Runs.{batch_size, batches_for}
use Rattle.dh_model.specs.Whole.{batches_shown}
use Rattle.dh_model.proofs.KeyOrders.{nat_text_ties, nat_text_total}
use Rattle.dh_laws.proofs.FactLemmas.Narrowed.{filter_where}
use Rattle.dh_schema.specs.Store.{tables}
use Rattle.dh_runs.proofs.plan.done_in.Goals as goal

pub returns-clause-value : goal.returns-clause-value
returns-clause-value g c clean =
    let old = tables (state g.S.Store c.args.conn.now) in
    let none = ap (λ (s : machine.State). s.books.parts) c.no_rows-books.ensures in
    let taken = c.in_ok-look.ensures.brought.first old c.no_rows-books.result (λ _. (refl, refl)) none clean in
    let of_month = λ (part : Part). nat_eq part.month c.args.month in
    c.batches_shown.ensures.value ∙ ap (λ (s : machine.State). batches_shown batch_size s.books c.args.month) taken.1
    ∙ ap (sum_by (λ (part : Part). batches_for batch_size part.count))
    (filter_where nat_text_total nat_text_ties of_month of_month (λ part own. own) old.books.parts)
