use Rattle.std.proofs.Common.{◌≡◌, ◌∙◌, ◌+◌, ◌*◌, ◌++◌, [], ◌∷◌, ap, arith, map, nat_lt, take, sym}
use Rattle.std.proofs.lemmas.List.{map-append}
use Rattle.dh_model.specs.Runs.{batch_size}
use Rattle.dh_leases.specs.declared.sums.Sum.{Sum}
use Rattle.dh_leases.specs.Sums.{sum_of}
use Rattle.dh_leases.specs.Rows.{rows_at, rows_of}
use Rattle.dh_leases.proofs.Cuts.{cut_once, rows_more}
use Rattle.dh_leases.proofs.plans.put_batches.Goals as goal

pub loop-number-preserved : goal.loop-number-preserved
loop-number-preserved c =
    let dues = c.args.dues.now in
    let run = c.args.run in
    let number = c.loop-number.number in
    let had = c.loop-number.invariant in
    let before = c.loop-number.batches.items in
    let rows = c.in_ok-rows_with.field-0 in
    let so_far = take ((number + 1) * batch_size) dues in
    let fee = ap (λ (s : Sum). s.fee) had.sum in
    let was = had.sum ∙ ap (λ f. sum_of f (take (number * batch_size) dues)) (sym fee) in
    let sum_is : c.sum_with-sum.result ≡ sum_of run.fee so_far =
    c.sum_with-sum.ensures.value (take (number * batch_size) dues) was
    ∙ ap (λ f. sum_of f (take (number * batch_size) dues ++ c.charges_at-batch.result.now)) fee
    ∙ ap (λ charges. sum_of run.fee (take (number * batch_size) dues ++ charges)) c.charges_at-batch.ensures
    ∙ ap (sum_of run.fee) (cut_once batch_size dues number) in
    let sums = ap (λ (s : Sum). s.fee) sum_is in
    let part_is = c.part_of_sum-part.ensures so_far (sum_is ∙ ap (λ f. sum_of f so_far) (sym sums)) in
    let fee_is = c.fee_row-fee.ensures so_far sum_is in
    let is : rows_of rows ≡ rows_at batch_size run dues number =
    c.in_ok-rows_with.ensures ∙ (λ i. (c.charges_at-batch.ensures i, part_is i, fee_is i, nat_lt 0 number)) in
    record {
      rows = ap (map rows_of) c.in_ok-push.ensures.items ∙ map-append rows_of before (rows ∷ [])
          ∙ ap (λ last. map rows_of before ++ last ∷ []) is
          ∙ ap (λ some. some ++ rows_at batch_size run dues number ∷ []) had.rows
          ∙ rows_more batch_size dues number run c.args.done (map rows_of c.args.batches.now.items) (omega arith);
      sum = sum_is;
      small = c.sum_with-sum.ensures.small;
      less = c.sum_with-sum.ensures.less;
      until = omega arith;
    }

pub fee_row-fee-requires : goal.fee_row-fee-requires
fee_row-fee-requires c =
    let had = c.loop-number.invariant in
    let fee = ap (λ (s : Sum). s.fee) had.sum in
    let was = had.sum ∙ ap (λ f. sum_of f (take (c.loop-number.number * batch_size) c.args.dues.now)) (sym fee) in
    ap (λ (s : Sum). s.fee) (c.sum_with-sum.ensures.value (take (c.loop-number.number * batch_size) c.args.dues.now) was) ∙ fee
