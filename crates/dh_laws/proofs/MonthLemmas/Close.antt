-- Books with all batches of the open run posted, and it closed.
use Rattle.std.proofs.Common.{◌≡◌, ◌≢◌, ◌∙◌, refl, sym, ap, subst, inl, inr, ℕ, ◌+◌, ◌<◌, ◌≤◌, true, false, nat_eq, nat_lt, List, [], ◌∷◌, ◌++◌, map, Some}
use Rattle.std.proofs.Common.{AllPairs, is_some, arith}
use Rattle.std.specs.List.{IsAmong}
use Rattle.std.specs.FinMap.{get, insert, keys, values}
use Rattle.dh_types.specs.declared.lease.Charge.{Charge}
use Rattle.std.proofs.lemmas.Bool.{cases_lt}
use Rattle.dh_types.specs.declared.run.Run.{Run}
use Rattle.dh_types.specs.declared.run.Part.{Part}
use Rattle.dh_model.specs.Books.{Books}
use Rattle.dh_model.specs.Kinds.{Kind}
use Rattle.dh_model.specs.Leases.{dues}
use Rattle.dh_model.specs.Runs.{batches, begun_branches, closed_run, dues_of_branch, part_key, part_of, posted_charges, posted_of_branch, posted_parts}
use Rattle.dh_model.specs.Runs.{batches_before}
use Rattle.dh_model.specs.BatchLaws.{AreNumbered}
use Rattle.dh_model.specs.Checks.{is_same_text}
use Rattle.dh_model.specs.Rules.{ArePosted, HasFees, IsLawful, IsThere, KeysInOrder, MeetsRules, MonthIsClosed}
use Rattle.dh_model.specs.Rules.{MonthIsOpen, MonthsInOrder, NamesWhatIsThere, Rule}
use Rattle.dh_model.specs.Rules.{RunsInOrder, charges_in, parts_in}
use Rattle.dh_model.specs.Whole.{open_row}
use Rattle.dh_model.proofs.Among.{Among, among, in_filter, in_map, is_among, of_map}
use Rattle.dh_model.proofs.BatchLemmas.{last_batch_posts_all}
use Rattle.dh_model.proofs.KeyOrders.{nat_text_ties, nat_text_total, nat_ties, nat_total}
use Rattle.dh_laws.specs.InOrder.{AreKeyed}
use Rattle.dh_model.proofs.MapRows.{each_insert, got_after, of_row, there, there_after, values_old}
use Rattle.dh_laws.proofs.InvariantLemmas.Fees.{at_alike, fees_stay}
use Rattle.dh_laws.proofs.InvariantLemmas.KeyedRows.{keyed_put}
use Rattle.dh_laws.proofs.InvariantLemmas.Growth.{names_put}
use Rattle.dh_laws.proofs.MapMerges.{own_row}
use Rattle.dh_laws.proofs.MonthLemmas.Alike.{closed_alike, have_trans}
use Rattle.dh_laws.proofs.MonthLemmas.Keep.{untouched}
use Rattle.dh_laws.proofs.MonthLemmas.Shown.{shown_row}
use Rattle.dh_laws.proofs.MonthLemmas.Sums.{all_are_dues, count_of_all, key_among, total_of_all}

module _ (size : ℕ) (b : Books) (row : Run) (pos : 1 ≤ size) (keyed : AreKeyed b) (rules : MeetsRules b size) (shown : open_row b ≡ Some row)
    (posted : ArePosted b size row.month (batches size b row.month)) where
  abbrev all : List Charge
  all = posted_charges size b row.month (batches size b row.month)

  abbrev done : Run
  done = closed_run row.month row.key all

  abbrev c : Books
  c = record b { runs = insert b.runs row.month done }

  names : NamesWhatIsThere b
  names = rules Rule.References

  is_row : get b.runs row.month ≡ Some row
  is_row = own_row nat_total nat_ties (λ (run : Run). run.month) b.runs (keyed Kind.Runs) row (shown_row b row shown).0

  row_there : IsThere b.runs row.month
  row_there = ap is_some is_row

  open_within : (row.month < b.next) × (b.next ≤ row.month + 1)
  open_within =
      let runs = rules Rule.Runs in
      let within = (runs.run row.month).0 row_there in
      let is = shown_row b row shown in (
        within.1,
        elim (cases_lt (row.month + 1) b.next) [
          | inl less ↦ absurd (let closed = runs.closed row (is_among (values b.runs) row is.0) less in let open_is = is.1 in cc)
          | inr last ↦ last
        ],
      )

  -- a run of another month is closed
  closed_before : (k : ℕ) (run : Run) → k ≢ row.month → get b.runs k ≡ Some run → run.is_closed ≡ true
  closed_before k run other e =
      let runs = rules Rule.Runs in
      let own = keyed Kind.Runs k run e in
      let within = (runs.run k).0 (ap is_some e) in
      let until = open_within in
      runs.closed run (is_among (values b.runs) run (of_row nat_total nat_ties b.runs k run e)) (elim (cases_lt (run.month + 1) b.next) [
        | inl less ↦ less
        | inr last ↦ absurd (other (let below = within.1 in omega (arith, below, last, own, until.0, until.1)))
      ])

  keyed_after : AreKeyed c
  keyed_after = keyed_put b keyed Kind.Runs row.month done refl

  still_there : (month : ℕ) → IsThere b.runs month → IsThere c.runs month
  still_there month h = there_after nat_total nat_ties b.runs row.month done month h

  was_there : (month : ℕ) → IsThere c.runs month → IsThere b.runs month
  was_there month h =
      let is = (there nat_total nat_ties c.runs month).0 h in
      elim (got_after nat_total nat_ties b.runs row.month done month is.0 is.1) [
        | inl new ↦ subst (λ m. IsThere b.runs m) (sym new.0) row_there
        | inr old ↦ ap is_some old.1
      ]

  names_after : NamesWhatIsThere c
  names_after = names_put b Kind.Runs row.month done names (λ client property is. is) tt

  keys_put : (before after : List Run) → map (λ (run : Run). run.key) (before ++ done ∷ after) ≡ map (λ (run : Run). run.key) (before ++ row ∷ after)
  keys_put [] after = refl
  keys_put (x ∷ before) after = ap (λ ks. x.key ∷ ks) (keys_put before after)

  keys_after : KeysInOrder c
  keys_after =
      let keys = rules Rule.Keys in
      let p = values_old nat_total nat_ties b.runs row.month done row is_row in
      let same : map (λ (run : Run). run.key) (values c.runs) ≡ map (λ (run : Run). run.key) (values b.runs)
      = ap (map (λ (run : Run). run.key)) p.is ∙ keys_put p.before p.after ∙ sym (ap (map (λ (run : Run). run.key)) p.was) in
      record {
        keys = subst (λ ks. AllPairs (λ key other. is_same_text key other ≡ false) (map (λ receipt. receipt.key) (values b.receipts) ++ ks))
            (sym same) keys.keys;
        numbers = keys.numbers;
      }

  runs_after : RunsInOrder c
  runs_after =
      let runs = rules Rule.Runs in
      record {
        months = runs.months;
        run = λ month. (λ h. (runs.run month).0 (was_there month h), λ h. still_there month ((runs.run month).1 h));
        closed = each_insert nat_total nat_ties b.runs row.month done (λ run. run.month + 1 < b.next → run.is_closed ≡ true)
            (λ less. refl) (λ k run other e less. closed_before k run other e);
      }

  numbered : AreNumbered b
  numbered = keyed Kind.Leases

  -- each part of the month is its branch's
  part_is : (part : Part) → IsAmong (parts_in b row.month) part → part ≡ part_of row.month part.branch (dues_of_branch b row.month part.branch)
  part_is part a =
      let n = batches size b row.month in
      let of = in_map (λ branch. part_of row.month branch (posted_of_branch size b row.month n branch)) (begun_branches size b row.month n) part
      (among (posted_parts size b row.month n) part ((posted.parts part).0 a)) in
      let kept = in_filter (λ branch. nat_lt (batches_before size b row.month branch) n) (keys b.branches) of.0 of.1 in
      let dues = (last_batch_posts_all size b row.month pos numbered).0 of.0 (is_among (keys b.branches) of.0 kept.0) in
      let whole : part ≡ part_of row.month of.0 (dues_of_branch b row.month of.0) = of.2 ∙ ap (part_of row.month of.0) dues in
      let own : part.branch ≡ of.0 = ap (λ (p : Part). p.branch) of.2 in
      subst (λ branch. part ≡ part_of row.month branch (dues_of_branch b row.month branch)) (sym own) whole

  -- and each branch has one
  part_there : (branch : List ℕ) → IsThere b.branches branch → IsThere b.parts (row.month, branch)
  part_there branch h =
      let n = batches size b row.month in
      let a = key_among b.branches branch h in
      let begun : Among (begun_branches size b row.month n) branch =
      subst (λ bs. Among bs branch) (sym (last_batch_posts_all size b row.month pos numbered).1) a in
      let part = part_of row.month branch (posted_of_branch size b row.month n branch) in
      let made = of_map (λ branch. part_of row.month branch (posted_of_branch size b row.month n branch)) (begun_branches size b row.month n) branch begun in
      let in_month = (posted.parts part).1 (is_among (posted_parts size b row.month n) part made) in
      let kept = in_filter (λ (p : Part). nat_eq p.month row.month) (values b.parts) part (among (parts_in b row.month) part in_month) in
      ap is_some (own_row nat_text_total nat_text_ties part_key b.parts (keyed Kind.Parts) part kept.0)

  closed_after : MonthIsClosed c done
  closed_after = record {
    charges = have_trans (charges_in b row.month) all (dues b row.month) posted.charges (all_are_dues b names row.month size pos numbered);
    parts = part_is;
    all_parts = λ branch h owing. part_there branch h;
    count = count_of_all b names row.month size pos numbered;
    total = total_of_all b names row.month size pos numbered;
  }

  months_after : MonthsInOrder c size
  months_after =
      let months = rules Rule.Months in
      record {
        closed = each_insert nat_total nat_ties b.runs row.month done (λ run. run.is_closed ≡ true → MonthIsClosed c run) (λ is. closed_after)
            (λ k run other e is. let same = untouched b c run.month refl refl refl refl refl refl in
            closed_alike b c run same.same (months.closed run (is_among (values b.runs) run (of_row nat_total nat_ties b.runs k run e)) is));
        under_way = each_insert nat_total nat_ties b.runs row.month done (λ run. run.is_closed ≡ false → MonthIsOpen c size run)
            (λ is. absurd (let closed : true ≡ false = is in cc))
            (λ k run other e is. absurd (let closed = closed_before k run other e in cc));
        charged = λ charge a. still_there charge.month (months.charged charge a);
        summed = λ part a. still_there part.month (months.summed part a);
      }

  -- the run is closed, so each part keeps its fee
  fees_after : HasFees c b.version
  fees_after = fees_stay b c (record {
    version = refl;
    charges = refl;
    parts = refl;
    rows = refl;
    of = λ charge a branch. at_alike b c refl branch (get b.leases charge.lease);
    run = λ part a run is unclosed. elim (got_after nat_total nat_ties b.runs row.month done part.month run is) [
      | inl new ↦ absurd (let closed : run.is_closed ≡ true = ap (λ (r : Run). r.is_closed) new.1 in let still = unclosed in cc)
      | inr old ↦ (old.1, refl)
    ];
  }) (rules Rule.Fees)

  rules_after : MeetsRules c size
  rules_after Rule.References = names_after
  rules_after Rule.Branches = let r = rules Rule.Branches in record { managers = r.managers; registrars = r.registrars }
  rules_after Rule.Managers = rules Rule.Managers
  rules_after Rule.Overlaps = rules Rule.Overlaps
  rules_after Rule.Starts = rules Rule.Starts
  rules_after Rule.Terms = rules Rule.Terms
  rules_after Rule.Deposits = let r = rules Rule.Deposits in record { amounts = r.amounts; one_each = r.one_each }
  rules_after Rule.Keys = keys_after
  rules_after Rule.Runs = runs_after
  rules_after Rule.Months = months_after
  rules_after Rule.Fees = fees_after
  rules_after Rule.Endings = rules Rule.Endings

  pub closing_is_lawful : AreKeyed
      (record b { runs = insert b.runs row.month (closed_run row.month row.key (posted_charges size b row.month (batches size b row.month))) })
      × IsLawful (record b { runs = insert b.runs row.month (closed_run row.month row.key (posted_charges size b row.month (batches size b row.month))) }) size
  closing_is_lawful = (
    keyed_after,
    record {
      rules = rules_after;
      closed = each_insert nat_total nat_ties b.runs row.month done (λ run. run.is_closed ≡ true) refl (λ k run other e. closed_before k run other e);
    },
  )
