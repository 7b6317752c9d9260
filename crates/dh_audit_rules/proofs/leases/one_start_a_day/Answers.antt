use Rattle.std.specs.FinMap as fin
use Rattle.std.proofs.lemmas.Result.{IfOk-weaker}
use Rattle.std.specs.Ordering.{nat_cmp}
use Rattle.dh_model.specs.Books.{pair_cmp, text_cmp}
use Rattle.dh_audit_rules.proofs.Pairs.{TellsDistinct, starts_tell}
use Rattle.dh_audit_rules.proofs.leases.one_start_a_day.Goals as goal

pub returns : goal.returns
returns c =
    let items = c.in_ok-starts.field-0.items in
    IfOk-weaker c.are_distinct.result (TellsDistinct (pair_cmp text_cmp nat_cmp) items) _
    (λ b tells. starts_tell (fin.values c.args.books.now.books.leases) items b c.in_ok-starts.ensures tells) c.are_distinct.ensures
