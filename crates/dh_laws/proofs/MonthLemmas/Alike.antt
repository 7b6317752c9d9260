-- Books that have the same of a month.
use Rattle.std.proofs.Common.{◌≡◌, ◌≢◌, ◌∙◌, refl, sym, ap, subst, ℕ, ◌+◌, ◌/◌, ◌≤◌, nat_lt, List, [], length, map, is_lt}
use Rattle.std.specs.List.{filter, flat_map, sum_by}
use Rattle.std.specs.FinMap.{get, keys}
use Rattle.dh_types.specs.declared.run.Run.{Run}
use Rattle.dh_model.specs.Books.{Books, text_cmp}
use Rattle.dh_model.specs.Leases.{dues}
use Rattle.dh_model.specs.Runs.{batches, batches_before, batches_for, dues_of_branch, part_of, place_among, posted_charges, posted_of_branch, posted_parts}
use Rattle.dh_model.specs.Runs.{fee_in, fees_of_parts, part_fee_of, posted_fees, since_second}
use Rattle.dh_model.specs.Runs.{total_of}
use Rattle.dh_model.specs.Rules.{ArePosted, HaveTheSame, IsThere, MonthIsClosed, MonthIsOpen, charges_in, parts_in}

module _ {X : Type 0} where
  pub have_same : (xs : List X) → HaveTheSame xs xs
  have_same xs x = (λ h. h, λ h. h)

  pub have_trans : (xs ys zs : List X) → HaveTheSame xs ys → HaveTheSame ys zs → HaveTheSame xs zs
  have_trans xs ys zs p q x = (λ h. (q x).0 ((p x).0 h), λ h. (p x).1 ((q x).1 h))

  -- lists that are equal to others in the place of these
  pub have_instead : (xs ys us vs : List X) → us ≡ xs → vs ≡ ys → HaveTheSame xs ys → HaveTheSame us vs
  have_instead xs ys us vs p q h = subst (λ l. HaveTheSame l vs) (sym p) (subst (λ l. HaveTheSame xs l) (sym q) h)

-- c has of the month what b has of it
pub record SameMonth (b c : Books) (month : ℕ) : Type 0 where
  pub charges : HaveTheSame (charges_in c month) (charges_in b month)
  pub parts : HaveTheSame (parts_in c month) (parts_in b month)
  pub part : (branch : List ℕ) → IsThere b.parts (month, branch) → IsThere c.parts (month, branch)
  pub branches : (branch : List ℕ) → IsThere c.branches branch → dues_of_branch b month branch ≢ [] → IsThere b.branches branch
  pub dues : dues c month ≡ dues b month
  pub of_branch : (branch : List ℕ) → dues_of_branch c month branch ≡ dues_of_branch b month branch

-- so a month that is closed stays so
pub closed_alike : (b c : Books) (run : Run) → SameMonth b c run.month → MonthIsClosed b run → MonthIsClosed c run
closed_alike b c run same closed = record {
  charges = have_trans (charges_in c run.month) (charges_in b run.month) (dues c run.month) same.charges
      (have_instead (charges_in b run.month) (dues b run.month) (charges_in b run.month) (dues c run.month) refl same.dues closed.charges);
  parts = λ part h. closed.parts part ((same.parts part).0 h) ∙ ap (part_of run.month part.branch) (sym (same.of_branch part.branch));
  all_parts = λ branch there some.
      let owing : dues_of_branch b run.month branch ≢ [] = λ none. some (same.of_branch branch ∙ none) in
      same.part branch (closed.all_parts branch (same.branches branch there owing) owing);
  count = closed.count ∙ ap length (sym same.dues);
  total = closed.total ∙ ap total_of (sym same.dues);
}

-- and the branches are the same
pub record SameBatches (b c : Books) (month : ℕ) : Type 0 where
  pub same : SameMonth b c month
  pub branches : c.branches ≡ b.branches

module _ (size : ℕ) (b c : Books) (month : ℕ) (alike : SameBatches b c month) where
  keys_alike : keys c.branches ≡ keys b.branches
  keys_alike = ap (λ branches. keys branches) (alike.branches)

  dues_alike : dues_of_branch c month ≡ dues_of_branch b month
  dues_alike = λ i branch. alike.same.of_branch branch i

  pub batches_alike : batches size c month ≡ batches size b month
  batches_alike = λ i. sum_by (λ branch. batches_for size (length (dues_alike i branch))) (keys_alike i)

  before_alike : batches_before size c month ≡ batches_before size b month
  before_alike = λ i branch. sum_by (λ other. batches_for size (length (dues_alike i other))) (filter (λ other. is_lt (text_cmp other branch)) (keys_alike i))

  of_branch_alike : (done : ℕ) → posted_of_branch size c month done ≡ posted_of_branch size b month done
  of_branch_alike done =
      λ i branch. filter (λ charge. nat_lt (before_alike i branch + place_among size (dues_alike i branch) charge / size) done) (dues_alike i branch)

  pub charges_alike : (done : ℕ) → posted_charges size c month done ≡ posted_charges size b month done
  charges_alike done = λ i. flat_map (of_branch_alike done i) (keys_alike i)

  pub parts_alike : (done : ℕ) → posted_parts size c month done ≡ posted_parts size b month done
  parts_alike done = λ i. map (λ branch. part_of month branch (of_branch_alike done i branch))
      (filter (λ branch. nat_lt (before_alike i branch) done) (keys_alike i))

  pub fees_alike : (done : ℕ) → c.branch_fees ≡ b.branch_fees → c.version ≡ b.version → posted_fees size c month done ≡ posted_fees size b month done
  fees_alike done fees version =
      let rows : fees_of_parts size c month done ≡ fees_of_parts size b month done =
      λ i. map (λ branch. part_fee_of month branch (fee_in (get (fees i) branch)) (of_branch_alike done i branch))
      (filter (λ branch. nat_lt (before_alike i branch) done) (keys_alike i)) in
      λ i. since_second (version i) (rows i)

  -- so the same batches are posted
  pub posted_alike : (done : ℕ) → ArePosted b size month done → ArePosted c size month done
  posted_alike done posted = record {
    few = subst (λ n. done ≤ n) (sym batches_alike) posted.few;
    charges = have_trans (charges_in c month) (charges_in b month) (posted_charges size c month done) alike.same.charges
        (have_instead (charges_in b month) (posted_charges size b month done) (charges_in b month) (posted_charges size c month done) refl
        (charges_alike done) posted.charges);
    parts = have_trans (parts_in c month) (parts_in b month) (posted_parts size c month done) alike.same.parts
        (have_instead (parts_in b month) (posted_parts size b month done) (parts_in b month) (posted_parts size c month done) refl
        (parts_alike done) posted.parts);
  }

pub open_alike : (size : ℕ) (b c : Books) (run : Run) → SameBatches b c run.month → MonthIsOpen b size run → MonthIsOpen c size run
open_alike size b c run alike is = record {
  done = is.done;
  posted = posted_alike size b c run.month alike is.done is.posted;
  count = is.count;
  total = is.total;
}
