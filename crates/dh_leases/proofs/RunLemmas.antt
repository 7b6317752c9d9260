-- The rows of a run that is made to its end.
use Rattle.std.proofs.Common.{◌≡◌, ◌∙◌, refl, sym, ap, inl, inr, ℕ, ◌+◌, ◌≤◌, List, [], ◌∷◌, map}
use Rattle.std.specs.FinMap.{insert, keys}
use Rattle.dh_types.specs.declared.lease.Charge.{Charge}
use Rattle.dh_types.specs.declared.run.Run.{Run}
use Rattle.dh_types.specs.declared.run.Part.{Part}
use Rattle.dh_types.specs.declared.fee.PartFee.{PartFee}
use Rattle.dh_model.specs.Books.{Books, State, with_rows}
use Rattle.dh_model.specs.Leases.{dues}
use Rattle.dh_model.specs.Runs.{batches, begun_branches, charge_key, closed_run, dues_of_branch, fee_at, part_fee_key}
use Rattle.dh_model.specs.Runs.{part_fee_of, part_key, part_of, posted_fees}
use Rattle.dh_model.specs.Runs.{posted_of_branch, posted_parts, ran, since_second}
use Rattle.dh_model.specs.BatchLaws.{AreNumbered}
use Rattle.dh_model.proofs.Among.{Among, is_among}
use Rattle.dh_model.proofs.BatchLemmas.{last_batch_posts_all}

module _ {X Y : Type 0} (f g : X → Y) where
  map_among : (xs : List X) → ((x : X) → Among xs x → f x ≡ g x) → map f xs ≡ map g xs
  map_among [] same = refl
  map_among (x ∷ xs) same = ap (λ y. y ∷ map f xs) (same x (inl refl)) ∙ ap (λ ys. g x ∷ ys) (map_among xs (λ y a. same y (inr a)))

-- after the last batch each branch has begun, and has all that falls due there
all_begun : {X : Type 0} (size : ℕ) (books : Books) (month : ℕ) → 1 ≤ size → AreNumbered books → (row : List ℕ → List Charge → X)
    → map (λ branch. row branch (dues_of_branch books month branch)) (keys books.branches)
    ≡ map (λ branch. row branch (posted_of_branch size books month (batches size books month) branch))
    (begun_branches size books month (batches size books month))
all_begun size books month pos are row =
    let all = last_batch_posts_all size books month pos are in
    let posted = λ (branch : List ℕ). row branch (posted_of_branch size books month (batches size books month) branch) in
    map_among (λ branch. row branch (dues_of_branch books month branch)) posted (keys books.branches)
    (λ branch a. ap (row branch) (sym (all.0 branch (is_among (keys books.branches) branch a))))
    ∙ ap (map posted) (sym all.1)

-- what the branch takes of a run that is done
abbrev pub fee_of_all : Books → ℕ → List ℕ → PartFee
fee_of_all books month branch = part_fee_of month branch (fee_at books branch) (dues_of_branch books month branch)

-- the rows put one after the other, and the next month set
pub record Posted (s s1 s2 s3 s4 s5 : State) (charges : List Charge) (parts : List Part) (fees : List PartFee) (run : Run) (next : ℕ) : Type 0 where
  pub charged : s1 ≡ record s { books = record s.books { charges = with_rows charge_key charges s.books.charges } }
  pub parted : s2 ≡ record s1 { books = record s1.books { parts = with_rows part_key parts s1.books.parts } }
  pub feed : s3 ≡ record s2 { books = record s2.books { part_fees = with_rows part_fee_key fees s2.books.part_fees } }
  pub run_put : s4 ≡ record s3 { books = record s3.books { runs = insert s3.books.runs run.month run } }
  pub moved : s5 ≡ record s4 { books = record s4.books { next = next } }

-- those of the run of the month
pub record OfRun (size : ℕ) (books : Books) (month : ℕ) (key : List ℕ) (charges : List Charge) (parts : List Part) (fees : List PartFee) (run : Run) (next : ℕ)
    : Type 0 where
  pub charges_are : charges ≡ dues books month
  pub parts_are : parts ≡ map (λ branch. part_of month branch (dues_of_branch books month branch)) (keys books.branches)
  pub fees_are : fees ≡ since_second books.version (map (fee_of_all books month) (keys books.branches))
  pub run_is : run ≡ closed_run month key (dues books month)
  pub next_is : next ≡ month + 1

module _ (s : State) where
  together : List Charge → List Part → List PartFee → Run → ℕ → State
  together charges parts fees run next =
      record s {
        books = record s.books {
          charges = with_rows charge_key charges s.books.charges;
          parts = with_rows part_key parts s.books.parts;
          part_fees = with_rows part_fee_key fees s.books.part_fees;
          runs = insert s.books.runs run.month run;
          next = next;
        };
      }

  all_rows : (s1 s2 s3 s4 s5 : State) (charges : List Charge) (parts : List Part) (fees : List PartFee) (run : Run) (next : ℕ)
      → Posted s s1 s2 s3 s4 s5 charges parts fees run next → s5 ≡ together charges parts fees run next
  unfolding together
  all_rows s1 s2 s3 s4 s5 charges parts fees run next h = rw (h.moved, h.run_put, h.feed, h.parted, h.charged)

  run_rows : (size month : ℕ) (key : List ℕ) (charges : List Charge) (parts : List Part) (fees : List PartFee) (run : Run) (next : ℕ) → 1 ≤ size
      → AreNumbered s.books → month ≡ s.books.next → OfRun size s.books month key charges parts fees run next
      → together charges parts fees run next ≡ record s { books = ran size s.books key }
  unfolding together
  run_rows size month key charges parts fees run next pos are is of =
      let parts_are = of.parts_are ∙ all_begun size s.books month pos are (part_of month) in
      let fees_are = of.fees_are ∙ ap (since_second s.books.version)
      (all_begun size s.books month pos are (λ branch. part_fee_of month branch (fee_at s.books branch))) in
      (λ i. together (of.charges_are i) (parts_are i) (fees_are i) (of.run_is i) (of.next_is i))
      ∙ ap (λ m. together (dues s.books m) (posted_parts size s.books m (batches size s.books m)) (posted_fees size s.books m (batches size s.books m))
      (closed_run m key (dues s.books m)) (m + 1)) is

  -- the books with the run
  pub run_made : (size month : ℕ) (key : List ℕ) (s1 s2 s3 s4 s5 : State) (charges : List Charge) (parts : List Part) (fees : List PartFee)
      (run : Run) (next : ℕ)
      → 1 ≤ size → AreNumbered s.books → month ≡ s.books.next → Posted s s1 s2 s3 s4 s5 charges parts fees run next
      → OfRun size s.books month key charges parts fees run next → s5 ≡ record s { books = ran size s.books key }
  run_made size month key s1 s2 s3 s4 s5 charges parts fees run next pos are is h of =
      all_rows s1 s2 s3 s4 s5 charges parts fees run next h ∙ run_rows size month key charges parts fees run next pos are is of
