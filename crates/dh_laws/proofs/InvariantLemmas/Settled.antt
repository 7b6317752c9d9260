-- Leases, receipts and keys stay in order after every change.
use Rattle.std.proofs.Common.{◌≡◌, ◌≢◌, ◌∙◌, refl, sym, ap, subst, inl, inr, ℕ, ◌+◌, ◌*◌, ◌≤◌, ◌<◌, false, ◌&&◌, cond, nat_eq, List, [], ◌∷◌, ◌++◌, map, Option}
use Rattle.std.proofs.Common.{None, IfSome, AllPairs, is_some, arith}
use Rattle.std.specs.FinMap.{get, insert, len, len-insert, values}
use Rattle.std.proofs.lemmas.Bool.{false_from_ne_true, and_parts, and_from}
use Rattle.dh_values.specs.declared.limits.TheConstants.{LEAST_LEASE_MONTHS}
use Rattle.dh_values.specs.declared.receipt_kind.ReceiptKind.TheVariants.{Deposit}
use Rattle.dh_types.specs.declared.lease.LeaseTerms.{LeaseTerms}
use Rattle.dh_types.specs.declared.lease.Lease.{Lease}
use Rattle.dh_types.specs.declared.lease.Ending.{Ending}
use Rattle.dh_types.specs.declared.lease.Receipt.{Receipt}
use Rattle.dh_types.specs.declared.run.Run.{Run}
use Rattle.dh_types.proofs.SameValues.{numbers, texts}
use Rattle.dh_model.specs.declared.open_run.OpenRun.{OpenRun}
use Rattle.dh_model.specs.declared.rows.Change.{Change}
use Rattle.dh_model.specs.declared.rows.Change.TheVariants as change
use Rattle.dh_model.specs.Books.{Books}
use Rattle.dh_model.specs.Kinds.{Kind}
use Rattle.dh_model.specs.Edits.{edit_of}
use Rattle.dh_model.specs.Checks.{is_same_text}
use Rattle.dh_model.specs.Leases.{overlap, running, months_in}
use Rattle.dh_model.specs.Machine.{changed}
use Rattle.dh_model.specs.Rules.{DepositsInOrder, Each, EachTwo, EndingsInOrder, KeysInOrder, LeasesInTime, LeasesNeverOverlap, NamesWhatIsThere}
use Rattle.dh_model.specs.Rules.{IsEarly, IsInTime, IsLeaseLength, OneStartADay, RunsInOrder}
use Rattle.dh_model.proofs.Among.{Among, in_append, in_map, is_among}
use Rattle.dh_model.proofs.KeyOrders.{nat_total, nat_ties}
use Rattle.dh_model.proofs.LeaseLemmas.{overlap_goes_both_ways}
use Rattle.dh_model.proofs.Rising.{Rises}
use Rattle.dh_laws.specs.InOrder.{AreKeyed}
use Rattle.dh_laws.proofs.VerdictLemmas.Acceptance.{Accepted, AddsLease, AddsReceipt, EndsLease, OpensRun, turned, turned_is}
use Rattle.dh_model.proofs.MapRows.{each_insert, each_two_insert, get_other, of_row, there, values_new}
use Rattle.dh_model.proofs.Pairs.{pairs_rise, rises_put, rising_pairs}
use Rattle.dh_laws.proofs.InvariantLemmas.EarlyEnds.{endings_after_end, overlaps_after_end}
use Rattle.dh_laws.proofs.VerdictLemmas.Cases.{IsLimited}
use Rattle.dh_laws.proofs.VerdictLemmas.Checks.{IsNewKey}
use Rattle.dh_laws.proofs.FactLemmas.Fit.{next_month_is_new, next_number_is_new}

-- the rules of leases, endings, deposits and keys
pub record AreSettled (books : Books) : Type 0 where
  pub overlaps : LeasesNeverOverlap books
  pub starts : OneStartADay books
  pub terms : LeasesInTime books
  pub deposits : DepositsInOrder books
  pub keys : KeysInOrder books
  pub endings : EndingsInOrder books

-- ---- what has the same leases, receipts and runs

record SameContracts (b c : Books) : Type 0 where
  leases : c.leases ≡ b.leases
  endings : c.endings ≡ b.endings
  receipts : c.receipts ≡ b.receipts
  runs : c.runs ≡ b.runs
  first : c.first ≡ b.first

settled_alike : (b c : Books) → SameContracts b c → AreSettled b → AreSettled c
settled_alike b c same s =
    let deposits = s.deposits in
    let keys = s.keys in
    record {
      overlaps = subst (λ leases. EachTwo leases (λ lease other. overlap (running c.endings lease) (running c.endings other) ≡ false)) (sym same.leases)
          (subst (λ endings. EachTwo b.leases (λ lease other. overlap (running endings lease) (running endings other) ≡ false)) (sym same.endings) s.overlaps);
      starts = subst (λ leases. EachTwo leases (λ lease other. (is_same_text lease.terms.client other.terms.client
          && nat_eq lease.terms.start other.terms.start) ≡ false)) (sym same.leases) s.starts;
      terms = subst (λ leases. Each leases (IsInTime c.first)) (sym same.leases) (subst (λ first. Each b.leases (IsInTime first)) (sym same.first) s.terms);
      deposits = record {
        amounts = subst (λ receipts. Each receipts (λ receipt. receipt.payment.kind ≡ Deposit
            → IfSome (get c.leases receipt.payment.lease) (λ lease. receipt.payment.amount ≡ 2 * lease.rent))) (sym same.receipts)
            (subst (λ leases. Each b.receipts (λ receipt. receipt.payment.kind ≡ Deposit
            → IfSome (get leases receipt.payment.lease) (λ lease. receipt.payment.amount ≡ 2 * lease.rent))) (sym same.leases) deposits.amounts);
        one_each = subst (λ receipts. EachTwo receipts (λ receipt other. receipt.payment.kind ≡ Deposit → other.payment.kind ≡ Deposit
            → receipt.payment.lease ≢ other.payment.lease)) (sym same.receipts) deposits.one_each;
      };
      keys = record {
        keys = subst (λ receipts. AllPairs (λ key other. is_same_text key other ≡ false) (map (λ receipt. receipt.key) (values receipts)
            ++ map (λ run. run.key) (values c.runs))) (sym same.receipts)
            (subst (λ runs. AllPairs (λ key other. is_same_text key other ≡ false) (map (λ receipt. receipt.key) (values b.receipts)
            ++ map (λ run. run.key) (values runs))) (sym same.runs) keys.keys);
        numbers = subst (λ receipts. Each receipts (λ receipt. (1 ≤ receipt.number) × (receipt.number ≤ len receipts))) (sym same.receipts) keys.numbers;
      };
      endings = subst (λ endings. Each endings (λ it. IsEarly it (get c.leases it.lease))) (sym same.endings)
          (subst (λ leases. Each b.endings (λ it. IsEarly it (get leases it.lease))) (sym same.leases) s.endings);
    }

-- ---- keys

-- texts that differ do so both ways
apart_back : (s t : List ℕ) → is_same_text s t ≡ false → is_same_text t s ≡ false
apart_back s t differ = false_from_ne_true (is_same_text t s) (λ yes. let back = (texts s t).1 (sym ((texts t s).0 yes)) in cc)

map_front : {X Y : Type 0} (f : X → Y) (before rest : List X) (others : List Y) → map f (before ++ rest) ++ others ≡ map f before ++ (map f rest ++ others)
map_front f [] rest others = refl
map_front f (x ∷ before) rest others = ap (λ ys. f x ∷ ys) (map_front f before rest others)

map_whole : {X Y : Type 0} (f : X → Y) (before rest : List X) → map f (before ++ rest) ≡ map f before ++ map f rest
map_whole f [] rest = refl
map_whole f (x ∷ before) rest = ap (λ ys. f x ∷ ys) (map_whole f before rest)

map_back : {X Y : Type 0} (f : X → Y) (before rest : List X) (others : List Y) → others ++ map f (before ++ rest) ≡ (others ++ map f before) ++ map f rest
map_back f before rest [] = map_whole f before rest
map_back f before rest (y ∷ others) = ap (λ ys. y ∷ ys) (map_back f before rest others)

module _ (b : Books) (keyed : AreKeyed b) (settled : AreSettled b) where
  abbrev receipt_keys : List (List ℕ)
  receipt_keys = map (λ (receipt : Receipt). receipt.key) (values b.receipts)

  abbrev run_keys : List (List ℕ)
  run_keys = map (λ (run : Run). run.key) (values b.runs)

  -- a new key differs from each, both ways
  new_key_apart : (key : List ℕ) → IsNewKey b key → (other : List ℕ) → Among (receipt_keys ++ run_keys) other → (is_same_text other key ≡ false)
      × (is_same_text key other ≡ false)
  new_key_apart key new other a = elim (in_append receipt_keys run_keys other a) [
    | inl r ↦
        let of = in_map (λ (receipt : Receipt). receipt.key) (values b.receipts) other r in
        let differ : is_same_text other key ≡ false = ap (λ k. is_same_text k key) of.2 ∙ new.receipts of.0 of.1 in
        (differ, apart_back other key differ)
    | inr r ↦
        let of = in_map (λ (run : Run). run.key) (values b.runs) other r in
        let differ : is_same_text other key ≡ false = ap (λ k. is_same_text k key) of.2 ∙ new.runs of.0 of.1 in
        (differ, apart_back other key differ)
  ]

  -- all keys, with a new one among them
  with_key : (key : List ℕ) → IsNewKey b key → (front back keys : List (List ℕ)) → receipt_keys ++ run_keys ≡ front ++ back → keys ≡ front ++ key ∷ back
      → AllPairs (λ k other. is_same_text k other ≡ false) keys
  with_key key new front back keys was is =
      let own = settled.keys in
      let rises : Rises (λ k other. is_same_text k other ≡ false) (front ++ back)
      = subst (Rises (λ k other. is_same_text k other ≡ false)) was (pairs_rise (λ k other. is_same_text k other ≡ false) (receipt_keys
      ++ run_keys) own.keys) in
      rising_pairs (λ k other. is_same_text k other ≡ false) keys
      (subst (Rises (λ k other. is_same_text k other ≡ false)) (sym is) (rises_put (λ k other. is_same_text k other ≡ false) front back key rises
      (λ other a. new_key_apart key new other (subst (λ ks. Among ks other) (sym was) a))))

  module _ (run : Option OpenRun) (it : Receipt) (next : it.number ≡ len b.receipts + 1) (adds : AddsReceipt b run it) where
    fresh_receipt : get b.receipts it.number ≡ None
    fresh_receipt = next_number_is_new b keyed settled.keys it.number next

    one_more_receipt : len (insert b.receipts it.number it) ≡ len b.receipts + 1
    one_more_receipt = len-insert nat_total b.receipts it.number it ∙ ap (λ found. cond (is_some found) (len b.receipts) (len b.receipts + 1)) fresh_receipt

    receipt_keys_after : KeysInOrder (record b { receipts = insert b.receipts it.number it })
    receipt_keys_after =
        let p = values_new nat_total nat_ties b.receipts it.number it fresh_receipt in
        let key_of = λ (receipt : Receipt). receipt.key in
        let keys = settled.keys in
        let more = one_more_receipt in
        record {
          keys = with_key it.key adds.key (map (λ (receipt : Receipt). receipt.key) p.before) (map (λ (receipt : Receipt). receipt.key) p.after ++ run_keys)
              (map (λ (receipt : Receipt). receipt.key) (values (insert b.receipts it.number it)) ++ run_keys)
              (ap (λ receipts. map (λ (receipt : Receipt). receipt.key) receipts ++ run_keys) p.was
              ∙ map_front (λ (receipt : Receipt). receipt.key) p.before p.after run_keys)
              (ap (λ receipts. map (λ (receipt : Receipt). receipt.key) receipts ++ run_keys) p.is
              ∙ map_front (λ (receipt : Receipt). receipt.key) p.before (it ∷ p.after) run_keys);
          numbers = each_insert nat_total nat_ties b.receipts it.number it (λ receipt. (1 ≤ receipt.number)
              × (receipt.number ≤ len (insert b.receipts it.number it)))
              (omega (arith, next), omega (arith, next, more))
              (λ k other apart e. let within = keys.numbers other (is_among (values b.receipts) other (of_row nat_total nat_ties b.receipts k other e)) in
              (within.0, omega (arith, within.1, more)));
        }

    deposits_after_receipt : DepositsInOrder (record b { receipts = insert b.receipts it.number it })
    deposits_after_receipt =
        let deposits = settled.deposits in
        record {
          amounts = each_insert nat_total nat_ties b.receipts it.number it
              (λ receipt. receipt.payment.kind ≡ Deposit → IfSome (get b.leases receipt.payment.lease) (λ lease. receipt.payment.amount ≡ 2 * lease.rent))
              (λ kind. (adds.deposit kind).amount)
              (λ k other apart e. deposits.amounts other (is_among (values b.receipts) other (of_row nat_total nat_ties b.receipts k other e)));
          one_each = each_two_insert nat_total nat_ties b.receipts it.number it
              (λ receipt other. receipt.payment.kind ≡ Deposit → other.payment.kind ≡ Deposit → receipt.payment.lease ≢ other.payment.lease)
              fresh_receipt deposits.one_each
              (λ k other e. let a = of_row nat_total nat_ties b.receipts k other e in (
                λ kind own. (adds.deposit own).first other a kind,
                λ own kind same. (adds.deposit own).first other a kind (sym same),
              ));
        }

    pub settled_with_receipt : AreSettled (record b { receipts = insert b.receipts it.number it })
    settled_with_receipt =
        record {
          overlaps = settled.overlaps;
          starts = settled.starts;
          terms = settled.terms;
          deposits = deposits_after_receipt;
          keys = receipt_keys_after;
          endings = settled.endings;
        }

  pub settled_with_run : (run : Option OpenRun) (it : Run) → OpensRun b run it → RunsInOrder b
      → AreSettled (record b { runs = insert b.runs it.month it; next = it.month + 1 })
  settled_with_run run it opens runs =
      let p = values_new nat_total nat_ties b.runs it.month it (next_month_is_new b keyed runs it.month opens.month) in
      let deposits = settled.deposits in
      let keys = settled.keys in
      record {
        overlaps = settled.overlaps;
        starts = settled.starts;
        terms = settled.terms;
        deposits = record { amounts = deposits.amounts; one_each = deposits.one_each };
        keys = record {
          keys = with_key it.key opens.key (receipt_keys ++ map (λ (run : Run). run.key) p.before) (map (λ (run : Run). run.key) p.after)
              (receipt_keys ++ map (λ (run : Run). run.key) (values (insert b.runs it.month it)))
              (ap (λ rows. receipt_keys ++ map (λ (run : Run). run.key) rows) p.was ∙ map_back (λ (run : Run). run.key) p.before p.after receipt_keys)
              (ap (λ rows. receipt_keys ++ map (λ (run : Run). run.key) rows) p.is ∙ map_back (λ (run : Run). run.key) p.before (it ∷ p.after) receipt_keys);
          numbers = keys.numbers;
        };
        endings = settled.endings;
      }

  -- ---- a new lease

  starts_back : (lease other : Lease) → (is_same_text other.terms.client lease.terms.client && nat_eq other.terms.start lease.terms.start) ≡ false
      → (is_same_text lease.terms.client other.terms.client && nat_eq lease.terms.start other.terms.start) ≡ false
  starts_back lease other differ = false_from_ne_true (is_same_text lease.terms.client other.terms.client && nat_eq lease.terms.start other.terms.start) (λ yes.
      let parts = and_parts (is_same_text lease.terms.client other.terms.client) (nat_eq lease.terms.start other.terms.start) yes in
      let client = (texts other.terms.client lease.terms.client).1 (sym ((texts lease.terms.client other.terms.client).0 parts.0)) in
      let start = (numbers other.terms.start lease.terms.start).1 (sym ((numbers lease.terms.start other.terms.start).0 parts.1)) in
      let both = and_from (is_same_text other.terms.client lease.terms.client) (nat_eq other.terms.start lease.terms.start) client start in
      cc)

  pub settled_with_lease : (run : Option OpenRun) (it : Lease) → get b.leases it.terms.number ≡ None → AddsLease b run it → IsLeaseLength it.terms.months
      → RunsInOrder b → NamesWhatIsThere b
      → (get b.endings it.terms.number ≡ None)
      → AreSettled (record b { leases = insert b.leases it.terms.number it })
  settled_with_lease run it new adds limits runs names unended =
      let deposits = settled.deposits in
      let keys = settled.keys in
      let number = it.terms.number in
      record {
        overlaps = each_two_insert nat_total nat_ties b.leases it.terms.number it
            (λ lease other. overlap (running b.endings lease) (running b.endings other) ≡ false) new settled.overlaps
            (λ k other e.
            let own : running b.endings it ≡ it.terms = ap (λ found. let t : LeaseTerms =
            record it.terms { months = months_in it.terms.months found } in t) unended in
            let free = ap (λ t. overlap t (running b.endings other)) own ∙ adds.free other (of_row nat_total nat_ties b.leases k other e) in
            (overlap_goes_both_ways (running b.endings other) (running b.endings it) ∙ free, free));
        starts = each_two_insert nat_total nat_ties b.leases it.terms.number it
            (λ lease other. (is_same_text lease.terms.client other.terms.client && nat_eq lease.terms.start other.terms.start) ≡ false) new settled.starts
            (λ k other e. let first = adds.first other (of_row nat_total nat_ties b.leases k other e) in (first, starts_back it other first));
        terms = each_insert nat_total nat_ties b.leases it.terms.number it
            (IsInTime b.first)
            (limits, (let from = runs.months in let later = adds.in_time in omega (arith, from, later)))
            (λ k other apart e. settled.terms other (is_among (values b.leases) other (of_row nat_total nat_ties b.leases k other e)));
        deposits = record {
          amounts = λ receipt a kind.
              let its = (there nat_total nat_ties b.leases receipt.payment.lease).0 (names Kind.Receipts receipt a) in
              let apart : receipt.payment.lease ≢ it.terms.number = λ same. let none : get b.leases receipt.payment.lease ≡ None =
              ap (get b.leases) same ∙ new in let some = its.1 in cc in
              subst (λ found. IfSome found (λ lease. receipt.payment.amount ≡ 2 * lease.rent))
              (sym (get_other nat_total nat_ties b.leases it.terms.number it receipt.payment.lease apart)) (deposits.amounts receipt a kind);
          one_each = deposits.one_each;
        };
        keys = record { keys = keys.keys; numbers = keys.numbers };
        endings = λ ending a.
            let its = (there nat_total nat_ties b.leases ending.lease).0 (names Kind.Endings ending a) in
            let apart : ending.lease ≢ it.terms.number = λ same. let none : get b.leases ending.lease ≡ None =
            ap (get b.leases) same ∙ new in let some = its.1 in cc in
            let was = settled.endings ending a in (
              was.0,
              subst (λ found. IfSome found (λ lease. ending.months < lease.terms.months))
                  (sym (get_other nat_total nat_ties b.leases it.terms.number it ending.lease apart)) was.1,
            );
      }

  -- a lease that is ended early
  pub settled_with_ending : (run : Option OpenRun) (it : Ending) → EndsLease b run it → LEAST_LEASE_MONTHS ≤ it.months
      → AreSettled (record b { endings = insert b.endings it.lease it })
  settled_with_ending run it ends least =
      let deposits = settled.deposits in
      let keys = settled.keys in
      record {
        overlaps = overlaps_after_end b keyed run it ends settled.overlaps;
        starts = settled.starts;
        terms = settled.terms;
        deposits = record { amounts = deposits.amounts; one_each = deposits.one_each };
        keys = record { keys = keys.keys; numbers = keys.numbers };
        endings = endings_after_end b keyed run it ends least settled.endings;
      }

-- ---- each change

module _ (b : Books) (run : Option OpenRun) (keyed : AreKeyed b) (settled : AreSettled b) (runs : RunsInOrder b) (names : NamesWhatIsThere b)
    (unended : (number : ℕ) → get b.leases number ≡ None → get b.endings number ≡ None) where
  as_before : (c : Books) → c.leases ≡ b.leases → c.endings ≡ b.endings → c.receipts ≡ b.receipts → c.runs ≡ b.runs → c.first ≡ b.first → AreSettled c
  as_before c leases endings receipts same_runs first = settled_alike b c
      (record { leases = leases; endings = endings; receipts = receipts; runs = same_runs; first = first }) settled

  turned_settled : (rows : Change) (a : Accepted b run rows) → IsLimited (edit_of rows) → AreSettled (turned b run rows a)
  turned_settled (change.Lease it) a l = settled_with_lease b keyed settled run it a.known a.fits l runs names (unended it.terms.number a.known)
  turned_settled (change.NewEnding it) a l = settled_with_ending b keyed settled run it a.fits l
  turned_settled (change.Ending it) a l = settled_with_ending b keyed settled run it a.fits l
  turned_settled (change.Receipt it) a l = settled_with_receipt b keyed settled run it a.known a.fits
  turned_settled (change.Open it) a l = settled_with_run b keyed settled run it a runs
  turned_settled rows a l = as_before (turned b run rows a) refl refl refl refl refl

  pub keeps_settled : (rows : Change) → Accepted b run rows → IsLimited (edit_of rows) → AreSettled (changed rows b)
  keeps_settled rows a l = subst AreSettled (turned_is b run rows a) (turned_settled rows a l)
