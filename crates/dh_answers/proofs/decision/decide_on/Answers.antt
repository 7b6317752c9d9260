use Rattle.std.proofs.Common.{◌≡◌, ◌∙◌, subst, IfOk}
use Rattle.dh_laws.proofs.FactLemmas.Judged.{judged_by_its_facts}
use Rattle.dh_answers.specs.Seen.{facts_of}
use Rattle.dh_answers.proofs.FrozenCommands.{passed}
use Rattle.dh_answers.proofs.decision.decide_on.Goals as goal

pub returns : goal.returns
returns c = λ books run keyed cut.
    let facts = c.args.facts.now in
    let told = c.args.command.now in
    subst (λ verdict. IfOk c.decide_passed.result (λ v. v ≡ verdict))
    (passed facts.books.books facts.receipts told facts.open_month c.requires ∙ judged_by_its_facts books run told (facts_of facts) keyed cut)
    c.decide_passed.ensures
