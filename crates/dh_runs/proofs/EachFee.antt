-- The fee rows of parts, put one by one from the last on.
use Rattle.std.proofs.Common.{◌≡◌, ◌≢◌, ◌∙◌, sym, ap, subst, ℕ, zero, suc, ◌+◌, ◌-◌, ◌<◌, ◌≤◌, List, [], ◌∷◌, map, length, get_or, drop}
use Rattle.std.proofs.Common.{None, is_some, false, is_lt, arith}
use Rattle.std.proofs.lemmas.List.{drop_all, drop_more}
use Rattle.std.proofs.lemmas.Cmp.{tied_itself}
use Rattle.std.specs.Ordering.{nat_cmp}
use Rattle.std.specs.FinMap.{FinMap, empty, get, get-empty, values}
use Rattle.dh_types.specs.declared.fee.PartFee.{PartFee}
use Rattle.dh_types.specs.declared.run.Part.{Part}
use Rattle.dh_types.specs.declared.version.Version.TheVariants.{Second}
use Rattle.dh_model.specs.Books.{Books, pair_cmp, text_cmp, with_rows}
use Rattle.dh_model.specs.Books as machine
use Rattle.dh_model.specs.Kinds.{Kind}
use Rattle.dh_model.specs.Runs.{part_fee_key, part_key}
use Rattle.dh_model.proofs.Among.{in_map}
use Rattle.dh_model.proofs.KeyOrders.{nat_text_ties, nat_text_total}
use Rattle.dh_model.proofs.Rising.{IsBefore, Rises, rises_by}
use Rattle.dh_laws.specs.InOrder.{AreKeyed}
use Rattle.dh_laws.proofs.MapMerges.{get_past_rows, rows_rise}
use Rattle.dh_leases.specs.Plans.{HasItsFeeRow}
use Rattle.dh_sql.proofs.EachRow.{with_none, with_one}
use Rattle.dh_runs.specs.Putting.{with_fees}
use Rattle.dh_runs.specs.Migrated.{HaveNoFees, no_fee, with_no_fees}

-- no part, no row
pub none_put : (books : Books) → with_no_fees [] books ≡ books
none_put books =
    ap (λ (fees : FinMap _ PartFee). let it : Books = record books { part_fees = fees } in it)
    (with_none part_fee_key nat_text_total nat_text_ties books.part_fees)

-- one more is put on those behind it
pub one_more : (part : Part) (parts : List Part)
    → ◌≡◌ {A = Books → Books} (λ books. with_fees (no_fee part ∷ []) (with_no_fees parts books)) (with_no_fees (part ∷ parts))
one_more part parts = λ i books. record books {
  part_fees = with_one part_fee_key nat_text_total nat_text_ties (no_fee part) (with_rows part_fee_key (map no_fee parts) books.part_fees) i;
}

-- what is left is new too
new_from : (n : ℕ) (parts : List Part) (books : Books) → HaveNoFees parts books → HaveNoFees (drop n parts) books
new_from zero parts books new = new
new_from (suc n) [] books new = tt
new_from (suc n) (part ∷ parts) books new = new_from n parts books new.1

module _ (parts : List Part) where
  pub all_left : drop (length parts) parts ≡ []
  all_left = drop_all (length parts) parts (omega arith)

  module _ (left : ℕ) (part : Part) (low : 0 < left) (high : left ≤ length parts) (at : part ≡ get_or parts (left - 1) part) where
    pub tail_is : drop (left - 1) parts ≡ part ∷ drop left parts
    tail_is =
        let next : left - 1 + 1 ≡ left = omega arith in
        drop_more parts (left - 1) part (omega arith) ∙ ap (λ (it : Part). it ∷ drop (left - 1 + 1) parts) (sym at)
        ∙ ap (λ (n : ℕ). part ∷ drop n parts) next

    pub is_new : (books : Books) → HaveNoFees parts books → get (with_no_fees (drop left parts) books).part_fees (part_key part) ≡ None
    is_new books new = (subst (λ (tail : List Part). HaveNoFees tail books) tail_is (new_from (left - 1) parts books new)).0

-- so put_fee finds no row to be replaced
pub not_there : (part : Part) (fee : PartFee) (s : machine.State) → fee ≡ no_fee part → s.books.version ≡ Second
    → get s.books.part_fees (part_key part) ≡ None → HasItsFeeRow false s fee
not_there part fee s is second none = record {
  second = second;
  known = sym (ap (λ (it : PartFee). is_some (get s.books.part_fees (part_fee_key it))) is ∙ ap is_some none);
}

-- ---- the parts of books that have no fee row

abbrev Apart : Part → Part → Type 0
Apart part other = part_key part ≢ part_key other

module _ (books : Books) (none : books.part_fees ≡ empty) where
  from_none : (parts : List Part) → Rises Apart parts → HaveNoFees parts books
  from_none [] rise = tt
  from_none (part ∷ parts) rise = (
    get_past_rows nat_text_total nat_text_ties part_fee_key (map no_fee parts) books.part_fees (part_key part) (λ it a same.
        let of = in_map no_fee parts it a in
        rise.0 of.0 of.1 (sym (sym (ap part_fee_key of.2) ∙ same)))
        ∙ ap (λ (m : FinMap (pair_cmp nat_cmp text_cmp) PartFee). get m (part_key part)) none
        ∙ get-empty (pair_cmp nat_cmp text_cmp) (part_key part),
    from_none parts rise.1,
  )

  pub none_has_a_fee : AreKeyed books → HaveNoFees (values books.parts) books
  none_has_a_fee keyed =
      from_none (values books.parts) (rises_by (λ x y. IsBefore (pair_cmp nat_cmp text_cmp) (part_key x) (part_key y)) Apart
      (λ x y before same.
      let itself : IsBefore (pair_cmp nat_cmp text_cmp) (part_key x) (part_key x) =
      subst (λ k. IsBefore (pair_cmp nat_cmp text_cmp) (part_key x) k) (sym same) before in
      let never = ap is_lt (tied_itself nat_text_total (part_key x)) in
      cc)
      (values books.parts) (rows_rise nat_text_total nat_text_ties part_key books.parts (keyed Kind.Parts)))
