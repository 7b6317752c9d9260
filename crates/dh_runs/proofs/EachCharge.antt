-- The charges of a batch, put one after the other, or some of them after the others.
use Rattle.std.proofs.Common.{◌≡◌, ◌∙◌, sym, ap, subst, ℕ, zero, suc, ◌<◌, List, [], ◌∷◌, ◌++◌, length, get_or, take, None, arith}
use Rattle.std.specs.Ordering.{nat_cmp}
use Rattle.std.specs.FinMap.{FinMap, get, insert}
use Rattle.dh_types.specs.declared.lease.Charge.{Charge}
use Rattle.dh_model.specs.Books.{Books, pair_cmp}
use Rattle.dh_model.specs.Runs.{charge_key}
use Rattle.dh_model.proofs.KeyOrders.{nats_tie, nats_total}
use Rattle.dh_leases.specs.Plans as plans
use Rattle.dh_sql.specs.Changes.{AreNew}
use Rattle.dh_sql.proofs.EachRow as row
use Rattle.dh_runs.specs.Putting.{with_charge, with_charges}

abbrev Held : Type 0
Held = FinMap (pair_cmp nat_cmp nat_cmp) Charge

-- the charges of a plan are new in the words of tables
pub each_new : (charges : List Charge) (held : Held) → plans.AreNew charges held → AreNew charge_key charges held
each_new [] held new = tt
each_new (charge ∷ charges) held new = (new.0, each_new charges (insert held (charge_key charge) charge) new.1)

-- the books with the charges, one put on the other
abbrev pub with_each : List Charge → Books → Books
with_each charges books = record books { charges = row.with_each charge_key charges books.charges }

-- one more is put on those before it
pub with_each_more : (charges : List Charge) (charge : Charge) (books : Books)
    → with_each (charges ++ charge ∷ []) books ≡ with_charge charge (with_each charges books)
with_each_more charges charge books =
    ap (λ (held : Held). let it : Books = record books { charges = held } in it) (row.with_each_more charge_key charges (charge ∷ []) books.charges)

-- to which it is new
pub is_new : (n : ℕ) (charges : List Charge) (charge : Charge) (books : Books) → AreNew charge_key charges books.charges → n < length charges
    → charge ≡ get_or charges n charge → get (with_each (take n charges) books).charges (charge_key charge) ≡ None
is_new n [] charge books new few at = absurd (omega (arith, few))
is_new zero (first ∷ charges) charge books new few at = ap (λ (it : Charge). get books.charges (charge_key it)) at ∙ new.0
is_new (suc n) (first ∷ charges) charge books new few at = is_new n charges charge (with_charge first books) new.1 (omega (arith, few)) at

-- all of them are the charges put at once
pub with_all : (charges : List Charge) (books : Books) → AreNew charge_key charges books.charges → with_each charges books ≡ with_charges charges books
with_all charges books new =
    ap (λ (held : Held). let it : Books = record books { charges = held } in it)
    (row.with_all charge_key nats_total nats_tie charges books.charges new)

-- ---- in two parts

-- of new charges the first are new, and the others are new to the books with these
pub new_in_parts : (first rest : List Charge) (books : Books) → AreNew charge_key (first ++ rest) books.charges
    → AreNew charge_key first books.charges × AreNew charge_key rest (with_charges first books).charges
new_in_parts first rest books new =
    let both = row.new_in_parts charge_key first rest books.charges new in
    (both.0, subst (λ (held : Held). AreNew charge_key rest held) (row.with_all charge_key nats_total nats_tie first books.charges both.0) both.1)

-- the others put behind the first are all of them put
pub with_both : (first rest : List Charge) (books : Books) → AreNew charge_key (first ++ rest) books.charges
    → with_charges rest (with_charges first books) ≡ with_charges (first ++ rest) books
with_both first rest books new =
    let both = new_in_parts first rest books new in
    sym (with_all rest (with_charges first books) both.1)
    ∙ ap (with_each rest) (sym (with_all first books both.0))
    ∙ ap (λ (held : Held). let it : Books = record books { charges = held } in it) (sym (row.with_each_more charge_key first rest books.charges))
    ∙ with_all (first ++ rest) books new
