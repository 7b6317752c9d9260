use Rattle.std.proofs.Common.{◌↔◌, ◌≡◌, ◌∙◌, sym, subst, true, nat_eq}
use Rattle.std.proofs.lemmas.Bool.{false≢true, not_from_false, true_from_ne_false}
use Rattle.std.proofs.lemmas.Result.{IfOk-weaker}
use Rattle.dh_types.proofs.SameValues.{numbers}
use Rattle.dh_model.specs.Rules.{ArePosted, MonthIsOpen}
use Rattle.dh_model.specs.Runs.{batch_size}
use Rattle.dh_audit_rules.proofs.open_months.open_month_is_in_order.Goals as goal

pub returns : goal.returns
returns c =
    let books = c.args.books.now.books in
    let run = c.args.run.now in
    let shown = c.batches_shown-shown.result in
    let same = nat_eq run.total c.of_pence.result in
    IfOk-weaker c.are_posted.result (λ b. (b ≡ true) ↔ ArePosted books batch_size run.month shown) (λ b. (b ≡ true) ↔ MonthIsOpen books batch_size run)
    (λ b tells. (
      λ yes. record {
        done = shown;
        posted = tells.0 yes;
        count = c.if-run-ne0.false;
        total = (numbers run.total c.of_pence.result).0 (true_from_ne_false same (λ differs. false≢true (sym c.if-ne.false ∙ c.ne.ensures
            ∙ not_from_false same differs))) ∙ c.of_pence.ensures;
      },
      λ open_now. tells.1 (subst (ArePosted books batch_size run.month)
          (sym (c.batches_shown-shown.ensures.posted open_now.done open_now.posted)) open_now.posted),
    )) c.are_posted.ensures
