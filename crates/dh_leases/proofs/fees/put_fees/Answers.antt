use Rattle.std.proofs.Common.{◌∙◌, refl, arith}
use Rattle.std.specs.Ordering.{nat_cmp}
use Rattle.std.specs.FinMap.{FinMap}
use Rattle.dh_types.specs.declared.fee.PartFee.{PartFee}
use Rattle.dh_model.specs.Books.{State, pair_cmp, text_cmp}
use Rattle.dh_model.specs.Runs.{part_fee_key}
use Rattle.dh_model.proofs.KeyOrders.{nat_text_ties, nat_text_total}
use Rattle.dh_leases.proofs.RowLemmas.{last_put, none_put}
use Rattle.dh_leases.proofs.fees.put_fees.Goals as goal

abbrev put : FinMap (pair_cmp nat_cmp text_cmp) PartFee → State → State
put rows s = record s { books = record s.books { part_fees = rows } }

pub loop-fee-preserved : goal.loop-fee-preserved
loop-fee-preserved c =
    last_put nat_text_total nat_text_ties part_fee_key (λ s. s.books.part_fees) put (λ m n s. refl) (λ m s. refl)
    c.loop-fee.books _ c.pop.new.self.items _ c.in-Some.fee
    c.in_ok-put_part_fee.ensures.ok c.in-Some.ensures.items
    ∙ c.loop-fee.invariant

pub returns : goal.returns
returns c =
    none_put nat_text_total nat_text_ties part_fee_key (λ s. s.books.part_fees) put (λ m n s. refl) (λ m s. refl) c.loop-fee.books c.loop-fee.fees.items refl
    (omega (arith, c.loop-fee.fees.ok.0, c.in_default.ensures.cases))
    ∙ c.loop-fee.invariant
