-- The orders of keys: total, and only equal keys tie.
use Rattle.std.proofs.Common.{◌≡◌}
use Rattle.std.specs.declared.cmp.Ordering.{Ordering}
use Rattle.std.specs.declared.cmp.Ordering.TheVariants.{Less, Equal, Greater}
use Rattle.std.specs.Ordering.{nat_cmp, ordering_then}
use Rattle.std.specs.Cmp.{IsTotalOrder, nat_cmp_total, on_total, then_total}
use Rattle.std.specs.Cmp.Lexicographic.{nat_list_cmp_total}
use Rattle.std.specs.FinMap.{IsAntisymmetric, nat_cmp-IsAntisymmetric, slice_cmp-IsAntisymmetric}
use Rattle.dh_model.specs.Books.{pair_cmp, text_cmp}

pub text_total : IsTotalOrder text_cmp
text_total = nat_list_cmp_total

pub text_ties : IsAntisymmetric text_cmp
text_ties = slice_cmp-IsAntisymmetric nat_cmp-IsAntisymmetric

pub nat_total : IsTotalOrder nat_cmp
nat_total = nat_cmp_total

pub nat_ties : IsAntisymmetric nat_cmp
nat_ties = nat_cmp-IsAntisymmetric

pub both_tied : (r q : Ordering) → ordering_then r q ≡ Equal → (r ≡ Equal) × (q ≡ Equal)
both_tied Less q e = cc
both_tied Equal q e = (λ i. Equal, e)
both_tied Greater q e = cc

module _ {A B : Type 0} {R : A → A → Ordering} {Q : B → B → Ordering} where
  pub pair_total : IsTotalOrder R → IsTotalOrder Q → IsTotalOrder (pair_cmp R Q)
  pair_total r q = then_total (on_total (λ t. t.0) r) (on_total (λ t. t.1) q)

  pub pair_ties : IsAntisymmetric R → IsAntisymmetric Q → IsAntisymmetric (pair_cmp R Q)
  pair_ties r q x y e =
      let tied = both_tied (R x.0 y.0) (Q x.1 y.1) e in
      λ i. (r x.0 y.0 tied.0 i, q x.1 y.1 tied.1 i)

pub texts_total : IsTotalOrder (pair_cmp text_cmp text_cmp)
texts_total = pair_total text_total text_total

pub texts_tie : IsAntisymmetric (pair_cmp text_cmp text_cmp)
texts_tie = pair_ties text_ties text_ties

pub nats_total : IsTotalOrder (pair_cmp nat_cmp nat_cmp)
nats_total = pair_total nat_total nat_total

pub nats_tie : IsAntisymmetric (pair_cmp nat_cmp nat_cmp)
nats_tie = pair_ties nat_ties nat_ties

pub nat_text_total : IsTotalOrder (pair_cmp nat_cmp text_cmp)
nat_text_total = pair_total nat_total text_total

pub nat_text_ties : IsAntisymmetric (pair_cmp nat_cmp text_cmp)
nat_text_ties = pair_ties nat_ties text_ties
