use Rattle.std.proofs.Common.{◌≡◌, ◌∙◌, ◌+◌, ◌≤◌, ◌<◌, sym, ap, subst, Some, arith}
use Rattle.std.proofs.lemmas.Bool.Decides.{nat_tests}
use Rattle.dh_types.specs.declared.command.Command.TheVariants as command
use Rattle.dh_types.specs.declared.reply.Progress.{Progress}
use Rattle.dh_types.specs.declared.reply.Reply.TheVariants as reply
use Rattle.dh_model.specs.Books.{State}
use Rattle.dh_model.specs.Machine.{step}
use Rattle.dh_model.specs.Runs.{batch_size, batches}
use Rattle.dh_model.specs.Whole.{whole}
use Rattle.dh_laws.specs.StateTables.{advanced_run}
use Rattle.dh_laws.specs.Telling.{IsTold}
use Rattle.dh_laws.proofs.CommandLemmas.Runs.{closing_told, part_told}
use Rattle.dh_rules.proofs.commands.tell_post.Goals as goal

pub returns-then-saturating_sub-more : goal.returns-then-saturating_sub-more
returns-then-saturating_sub-more c = λ in_order.
    let run = c.args.run in
    let count = c.args.count in
    let few : batches batch_size c.args.before.books run.month ≤ run.done + count =
    grind (arith, nat_tests, c.in_ok-all.ensures, c.number.ensures.value, c.from-more.ensures, c.saturating_sub.ensures, c.if-saturating_sub-more.true) in
    let whole = c.in_ok-whole.ensures.made in_order in
    closing_told batch_size c.args.before run count c.requires c.in_ok-whole.whole c.in_ok-stepped.stepped.books c.in_ok-stepped.stepped.reply whole.0 whole.1
    whole.2 few
    (c.in_ok-stepped.ensures ∙ ap (λ (s : State). step batch_size s (command.Post count)) c.set_open_run.ensures)

pub returns : goal.returns
returns c = λ in_order.
    let before = c.args.before in
    let run = c.args.run in
    let count = c.args.count in
    let after = c.in_ok-advanced.field-0 in
    let more : run.done + count < batches batch_size before.books run.month =
    grind (arith, nat_tests, c.in_ok-all.ensures, c.number.ensures.value, c.from-more.ensures, c.saturating_sub.ensures, c.if-saturating_sub-more.false) in
    let counted : c.from-more.result ≡ count = omega (arith, c.number.ensures.value, c.from-more.ensures) in
    let all : c.in_ok-all.all ≡ batches batch_size before.books run.month = c.in_ok-all.ensures in
    let kept = c.in_ok-advanced.ensures in_order in
    let stands = kept.2 ∙ ap (advanced_run (whole batch_size before.books) c.from-more.result) c.requires
    ∙ ap (λ n. advanced_run (whole batch_size before.books) n (Some run)) counted in
    subst (λ (part : Progress). IsTold batch_size (command.Post count) (reply.Progress part) before after)
    (λ i. record { month = run.month; done = run.done + sym counted i; of = sym all i })
    (part_told batch_size before run count c.requires after kept.0 kept.1 stands more)
