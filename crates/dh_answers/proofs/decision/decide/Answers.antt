use Rattle.std.proofs.Common.{◌≡◌, ◌∙◌, ℕ, sym, ap, subst, IfOk, rules}
use Rattle.dh_model.specs.Verdicts.{verdict_among}
use Rattle.dh_laws.specs.Looks.{month_open}
use Rattle.dh_answers.proofs.FrozenCommands.{by_month, passed, refused}
use Rattle.dh_answers.proofs.decision.decide.Goals as goal

pub returns-in-Some : goal.returns-in-Some
returns-in-Some c =
    let books = c.args.books.now in
    let found : c.map-open_month.result ≡ month_open books.open_run = search rules in
    refused books.books _ c.args.command.now _ _ found c.in-Some.refusal (sym c.open_refusal.ensures ∙ c.in-Some.is)

pub returns-in-None : goal.returns-in-None
returns-in-None c =
    let books = c.args.books.now in
    let told = c.args.command.now in
    let found : c.map-open_month.result ≡ month_open books.open_run = search rules in
    subst (λ verdict. IfOk c.decide_passed.result (λ v. v ≡ verdict))
    (passed books.books c.receipt_count.result told c.map-open_month.result (sym c.open_refusal.ensures ∙ c.in-None.is)
    ∙ by_month books.books c.receipt_count.result told c.map-open_month.result books.open_run found
    ∙ ap (λ (n : ℕ). verdict_among books.books n books.open_run told) c.receipt_count.ensures) c.decide_passed.ensures
