-- What a command looks at decides its verdict: each look-up finds in it what it finds in the books.
use Rattle.std.proofs.Common.{◌≡◌, ◌∙◌, refl, sym, ap, ℕ, Bool, true, List, map, subst, Option, Some, None, is_some}
use Rattle.std.proofs.Common.{nat_eq, nat_lt, not, ◌&&◌, ◌||◌}
use Rattle.std.specs.List.{count_by}
use Rattle.std.specs.List as list
use Rattle.std.specs.FinMap.{contains_key, get, values}
use Rattle.std.proofs.lemmas.Bool.{and_parts, or_left, or_right}
use Rattle.dh_values.specs.declared.receipt_kind.ReceiptKind.TheVariants.{Deposit}
use Rattle.dh_types.specs.declared.staff.Staff.{Staff}
use Rattle.dh_types.specs.declared.property.Property.{Property}
use Rattle.dh_types.specs.declared.lease.LeaseTerms.{LeaseTerms}
use Rattle.dh_types.specs.declared.lease.Lease.{Lease}
use Rattle.dh_types.specs.declared.lease.Ending.{Ending}
use Rattle.dh_types.specs.declared.lease.Receipt.{Receipt}
use Rattle.dh_types.specs.declared.run.Run.{Run}
use Rattle.dh_types.specs.declared.command.Command.{Command}
use Rattle.dh_types.specs.declared.command.Command.TheVariants as command
use Rattle.dh_types.specs.declared.command.Assignment.{Assignment}
use Rattle.dh_types.specs.declared.command.ReceiptOrder.{ReceiptOrder}
use Rattle.dh_types.specs.declared.reply.Refusal.TheVariants as refusal
use Rattle.dh_types.specs.Records.{is_same_optional}
use Rattle.dh_types.specs.Records.{is_same_receipt_kind}
use Rattle.dh_types.proofs.SameValues.{numbers, texts}
use Rattle.dh_model.specs.declared.limits.TheConstants.{MANAGED_AT_MOST}
use Rattle.dh_model.specs.declared.open_run.OpenRun.{OpenRun}
use Rattle.dh_model.specs.declared.rows.Verdict.{Verdict}
use Rattle.dh_model.specs.declared.rows.Verdict.TheVariants as verdict
use Rattle.dh_model.specs.Books.{Books}
use Rattle.dh_model.specs.Kinds.{Kind, key_in, key_of, record_of, records_of}
use Rattle.dh_model.specs.Leases.{length_of, overlap, running, months_in}
use Rattle.dh_model.specs.Checks.{each_is, has_deposit, has_room, is_registered, is_same_text, least, least_overlapping, least_that_day, managed_besides}
use Rattle.dh_model.specs.Checks.{receipt_of_key, run_of_key, works_at}
use Rattle.dh_model.specs.Verdicts.{Free, Frozen, Needed, OnRun, assigned, by_run, decided, ended, on_run, ruling, verdict_among, verdict_on}
use Rattle.dh_model.specs.Whole.{rows_where}
use Rattle.dh_model.proofs.KeyOrders.{nat_ties, nat_total, text_ties, text_total}
use Rattle.dh_model.proofs.KindOrders.{ties_of, total_of}
use Rattle.dh_laws.specs.InOrder.{AreKeyed}
use Rattle.dh_laws.specs.Looks.{Counts, JudgedByItsFacts, is_before, is_beside, looked_at, manager_in, month_open, properties_beside, is_some_beside}
use Rattle.dh_laws.specs.Looks.{registration_for}
use Rattle.dh_laws.proofs.FactLemmas.Narrowed.{any_where, count_where, filter_where, find_where, get_where, values_where}
use Rattle.dh_laws.proofs.MonthLemmas.Dues.{kept_alike}
use Rattle.dh_laws.proofs.MapMerges.{own_row}
use Rattle.dh_model.proofs.Among.{Among, in_filter}

same_text : (s t : List ℕ) → s ≡ t → is_same_text s t ≡ true
same_text s t e = (texts s t).1 e

and_true : (a b : Bool) → a ≡ true → b ≡ true → (a && b) ≡ true
and_true a b p q = rw (p, q) refl

each_alike : (given : Option (List ℕ)) (f g : List ℕ → Bool) → ((m : List ℕ) → given ≡ Some m → f m ≡ g m) → each_is f given ≡ each_is g given
each_alike None f g h = refl
each_alike (Some m) f g h = h m refl

module _ (books : Books) (keyed : AreKeyed books) where
  -- ---- a row by its key

  -- among rows where it is kept, it is found as among all
  there : (kind : Kind) (key : key_of kind) (kept : record_of kind → Bool) → ((it : record_of kind) → key_in kind it ≡ key → kept it ≡ true)
      → get (rows_where kept (records_of kind books)) key ≡ get (records_of kind books) key
  there kind key kept covers = get_where (total_of kind) (ties_of kind) kept (key_in kind) (records_of kind books) key (keyed kind) covers

  branch_there : (n : List ℕ) → get (rows_where (λ b. is_same_text b.number n) books.branches) n ≡ get books.branches n
  branch_there n = there Kind.Branches n (λ b. is_same_text b.number n) (λ b e. same_text b.number n e)

  member_there : (n : List ℕ) → get (rows_where (λ s. is_same_text s.number n) books.staff) n ≡ get books.staff n
  member_there n = there Kind.Staff n (λ s. is_same_text s.number n) (λ s e. same_text s.number n e)

  owner_there : (n : List ℕ) → get (rows_where (λ o. is_same_text o.number n) books.owners) n ≡ get books.owners n
  owner_there n = there Kind.Owners n (λ o. is_same_text o.number n) (λ o e. same_text o.number n e)

  client_there : (n : List ℕ) → get (rows_where (λ c. is_same_text c.number n) books.clients) n ≡ get books.clients n
  client_there n = there Kind.Clients n (λ c. is_same_text c.number n) (λ c e. same_text c.number n e)

  property_there : (n : List ℕ) → get (rows_where (λ p. is_same_text p.number n) books.properties) n ≡ get books.properties n
  property_there n = there Kind.Properties n (λ p. is_same_text p.number n) (λ p e. same_text p.number n e)

  viewing_there : (c p : List ℕ)
      → get (rows_where (λ v. is_same_text v.client c && is_same_text v.property p) books.viewings) (c, p) ≡ get books.viewings (c, p)
  viewing_there c p =
      there Kind.Viewings (c, p) (λ v. is_same_text v.client c && is_same_text v.property p)
      (λ v e. and_true _ _ (same_text v.client c (ap (λ k. k.0) e)) (same_text v.property p (ap (λ k. k.1) e)))

  registration_there : (c b : List ℕ)
      → get (rows_where (λ r. is_same_text r.client c && is_same_text r.branch b) books.registrations) (c, b) ≡ get books.registrations (c, b)
  registration_there c b =
      there Kind.Registrations (c, b) (λ r. is_same_text r.client c && is_same_text r.branch b)
      (λ r e. and_true _ _ (same_text r.client c (ap (λ k. k.0) e)) (same_text r.branch b (ap (λ k. k.1) e)))

  inspection_there : (p : List ℕ) (d : ℕ)
      → get (rows_where (λ v. is_same_text v.property p && nat_eq v.day d) books.inspections) (p, d) ≡ get books.inspections (p, d)
  inspection_there p d =
      there Kind.Inspections (p, d) (λ v. is_same_text v.property p && nat_eq v.day d)
      (λ v e. and_true _ _ (same_text v.property p (ap (λ k. k.0) e)) ((numbers v.day d).1 (ap (λ k. k.1) e)))

  lease_there : (n : ℕ) → get (rows_where (λ l. nat_eq l.terms.number n) books.leases) n ≡ get books.leases n
  lease_there n = there Kind.Leases n (λ l. nat_eq l.terms.number n) (λ l e. (numbers l.terms.number n).1 e)

  -- ---- a manager, where one is given

  manager_there : (staff : Option (List ℕ)) (m : List ℕ) → staff ≡ Some m → get (manager_in books.staff staff) m ≡ get books.staff m
  manager_there staff m is = ap (λ o. get (manager_in books.staff o) m) is ∙ member_there m

  module _ (n : List ℕ) where
    abbrev near : List ℕ → Property → Bool
    near m p = is_same_text p.number n || is_same_optional is_same_text p.staff (Some m)

    this_there : (staff : Option (List ℕ)) → get (properties_beside books.properties n staff) n ≡ get books.properties n
    this_there None = property_there n
    this_there (Some m) =
        there Kind.Properties n (near m) (λ p e. or_left _ _ (same_text p.number n e))

    others_counted : (staff : Option (List ℕ)) (m k : List ℕ) → staff ≡ Some m
        → count_by (λ (other : Property). is_same_optional is_same_text other.staff (Some m) && not (is_same_text other.number k))
        (values (properties_beside books.properties n staff)) ≡ managed_besides books m k
    others_counted staff m k is =
        ap (λ o. count_by (λ (other : Property). is_same_optional is_same_text other.staff (Some m) && not (is_same_text other.number k))
        (values (properties_beside books.properties n o))) is
        ∙ count_where text_total text_ties (near m)
        (λ (other : Property). is_same_optional is_same_text other.staff (Some m) && not (is_same_text other.number k))
        (λ p h. or_right (is_same_text p.number n) _ (and_parts _ _ h).0) books.properties

  -- the manager is there, of the branch, and has room, as in the books
  module _ (staff : Option (List ℕ)) where
    named_alike : each_is (λ m. contains_key (manager_in books.staff staff) m) staff ≡ each_is (λ m. contains_key books.staff m) staff
    named_alike = each_alike staff _ (λ m. contains_key books.staff m) (λ m is. ap (λ (s : Option Staff). is_some s) (manager_there staff m is))

    branch_alike : (branch : List ℕ)
        → each_is (λ m. works_at branch (get (manager_in books.staff staff) m)) staff ≡ each_is (λ m. works_at branch (get books.staff m)) staff
    branch_alike branch = each_alike staff _ (λ m. works_at branch (get books.staff m)) (λ m is. ap (works_at branch) (manager_there staff m is))

    room_alike : (few : Books) (n k : List ℕ) → few.properties ≡ properties_beside books.properties n staff
        → each_is (λ m. has_room few m k) staff ≡ each_is (λ m. has_room books m k) staff
    room_alike few n k cut =
        each_alike staff (λ m. has_room few m k) (λ m. has_room books m k)
        (λ m is. ap (λ c. nat_lt c MANAGED_AT_MOST)
        (ap (λ ps. count_by (λ (other : Property). is_same_optional is_same_text other.staff (Some m) && not (is_same_text other.number k)) (values ps)) cut
        ∙ others_counted n staff m k is))

  -- ---- a receipt, and a run

  run_there : (key : List ℕ)
      → list.find (λ (r : Run). is_same_text r.key key) (values (rows_where (λ r. is_same_text r.key key) books.runs)) ≡ run_of_key books key
  run_there key = find_where nat_total nat_ties (λ (r : Run). is_same_text r.key key) (λ r. is_same_text r.key key) (λ r h. h) books.runs

  receipt_there : (key : List ℕ)
      → list.find (λ (r : Receipt). is_same_text r.key key) (values (rows_where (λ r. is_same_text r.key key) books.receipts)) ≡ receipt_of_key books key
  receipt_there key =
      find_where nat_total nat_ties (λ (r : Receipt). is_same_text r.key key) (λ r. is_same_text r.key key) (λ r h. h) books.receipts

  module _ (order : ReceiptOrder) where
    abbrev few : Books
    few = looked_at books (command.Receipt order)

    paid_there : list.find (λ (r : Receipt). is_same_text r.key order.key) (values (rows_where (is_before order) books.receipts))
        ≡ receipt_of_key books order.key
    paid_there = find_where nat_total nat_ties (is_before order) (λ r. is_same_text r.key order.key) (λ r h. or_left _ _ h) books.receipts

    deposit_alike : has_deposit few order.payment.lease ≡ has_deposit books order.payment.lease
    deposit_alike =
        any_where nat_total nat_ties (is_before order) (λ r. nat_eq r.payment.lease order.payment.lease && is_same_receipt_kind r.payment.kind Deposit)
        (λ r h. or_right (is_same_text r.key order.key) _ h) books.receipts

  -- ---- a lease

  module _ (terms : LeaseTerms) where
    abbrev near_terms : Books
    near_terms = looked_at books (command.Lease terms)

    numbered_there : get (rows_where (is_beside terms) books.leases) terms.number ≡ get books.leases terms.number
    numbered_there =
        there Kind.Leases terms.number (is_beside terms)
        (λ l e. or_left _ _ (or_left _ (is_same_text l.terms.property terms.property) ((numbers l.terms.number terms.number).1 e)))

    registered_with : (found : Option Property)
        → is_registered (record near_terms { registrations = registration_for books.registrations terms.client found }) terms.client found
        ≡ is_registered books terms.client found
    registered_with None = refl
    registered_with (Some property) = ap is_some (registration_there terms.client property.branch)

    registered_alike : is_registered near_terms terms.client (get near_terms.properties terms.property)
        ≡ is_registered books terms.client (get books.properties terms.property)
    registered_alike = ap (is_registered near_terms terms.client) (property_there terms.property) ∙ registered_with (get books.properties terms.property)

    that_day_alike : least_that_day near_terms terms.client terms.start ≡ least_that_day books terms.client terms.start
    that_day_alike =
        ap (λ ls. least (map (λ (l : Lease). l.terms.number) ls))
        (filter_where nat_total nat_ties (is_beside terms) (λ l. is_same_text l.terms.client terms.client && nat_eq l.terms.start terms.start)
        (λ l h. or_right _ _ h) books.leases)

    -- a lease beside runs as long there
    runs_alike : (l : Lease) → Among (values near_terms.leases) l
        → overlap terms (running near_terms.endings l) ≡ overlap terms (running books.endings l)
    runs_alike l a =
        let kept = in_filter (is_beside terms) (values books.leases) l
        (subst (λ ls. Among ls l) (values_where nat_total nat_ties (is_beside terms) books.leases) a) in
        let own = own_row nat_total nat_ties (λ (it : Lease). it.terms.number) books.leases (keyed Kind.Leases) l kept.0 in
        let ending = get_where nat_total nat_ties (λ (it : Ending). is_some_beside terms (get books.leases it.lease)) (λ it. it.lease)
        books.endings l.terms.number (keyed Kind.Endings)
        (λ it e. ap (λ n. is_some_beside terms (get books.leases n)) e ∙ ap (is_some_beside terms) own ∙ kept.1) in
        ap (λ found. overlap terms (record l.terms { months = months_in l.terms.months found })) ending

    others_alike : least_overlapping near_terms terms ≡ least_overlapping books terms
    others_alike =
        ap (λ ls. least (map (λ (l : Lease). l.terms.number) ls))
        (kept_alike (λ l. overlap terms (running near_terms.endings l)) (λ l. overlap terms (running books.endings l)) (values near_terms.leases) runs_alike
        ∙ filter_where nat_total nat_ties (is_beside terms) (λ l. overlap terms (running books.endings l))
        (λ l h. or_left _ _ (or_right (nat_eq l.terms.number terms.number) _
        (same_text l.terms.property terms.property (sym ((texts terms.property l.terms.property).0 (and_parts _ _ h).0))))) books.leases)

  -- ---- a fee, and an early end

  fee_there : (branch : List ℕ) → get (rows_where (λ f. is_same_text f.branch branch) books.branch_fees) branch ≡ get books.branch_fees branch
  fee_there branch = there Kind.BranchFees branch (λ f. is_same_text f.branch branch) (λ f e. same_text f.branch branch e)

  ending_there : (n : ℕ) → get (rows_where (λ e. nat_eq e.lease n) books.endings) n ≡ get books.endings n
  ending_there n = there Kind.Endings n (λ e. nat_eq e.lease n) (λ e is. (numbers e.lease n).1 is)

  -- a lease runs as long
  length_there : (it : Ending) (lease : Lease) → get books.leases it.lease ≡ Some lease
      → length_of (looked_at books (command.End it)).endings lease ≡ length_of books.endings lease
  length_there it lease is =
      let number : lease.terms.number ≡ it.lease = keyed Kind.Leases it.lease lease is in
      rw (number, ending_there it.lease) refl

  ended_alike : (it : Ending) (found : Option Lease) → get books.leases it.lease ≡ found
      → decided (ended (looked_at books (command.End it)) it found) ≡ decided (ended books it found)
  ended_alike it None is = refl
  ended_alike it (Some lease) is = rw (length_there it lease is, ending_there it.lease) refl

  assigned_alike : (it : Assignment) (found : Option Property) → decided (assigned (looked_at books (command.Assign it)) it found)
      ≡ decided (assigned books it found)
  assigned_alike it None = refl
  assigned_alike it (Some row) =
      rw (
        named_alike it.staff,
        branch_alike it.staff row.branch,
        room_alike it.staff (looked_at books (command.Assign it)) it.property row.number refl,
      ) refl

  -- ---- any command

  cut_judged : (run : Option OpenRun) (told : Command) (count : ℕ) → Counts told books.receipts count
      → verdict_among (looked_at books told) count run told ≡ verdict_on books run told
  cut_judged run (command.Property it) count is =
      rw (
        this_there it.number it.staff,
        owner_there it.owner,
        named_alike it.staff,
        branch_there it.branch,
        branch_alike it.staff it.branch,
        room_alike it.staff (looked_at books (command.Property it)) it.number it.number refl,
      ) refl
  cut_judged run (command.Assign it) count is =
      rw (this_there it.property it.staff) (assigned_alike it (get books.properties it.property))
  cut_judged run (command.Lease it) count is =
      rw (numbered_there it, client_there it.client, registered_alike it, property_there it.property, that_day_alike it, others_alike it) refl
  cut_judged run (command.End it) count is =
      rw (lease_there it.lease) (ap (by_run Frozen run) (ended_alike it (get books.leases it.lease) refl))
  cut_judged run (command.Receipt it) count is =
      rw (is, paid_there it, run_there it.key, deposit_alike it, lease_there it.payment.lease) refl
  cut_judged run (command.Post count_of) count is = refl
  cut_judged run told count is =
      simp (
        branch_there,
        fee_there,
        member_there,
        owner_there,
        property_there,
        client_there,
        registration_there,
        viewing_there,
        inspection_there,
        run_there,
        receipt_there,
      )

-- ---- of an open run the month alone

run_alike : (on : OnRun) (run other : Option OpenRun) (v : Verdict) → month_open run ≡ month_open other → by_run on run v ≡ by_run on other v
run_alike Free run other v e = refl
run_alike on None None v e = refl
run_alike on None (Some b) v e = cc
run_alike on (Some a) None v e = cc
run_alike Frozen (Some a) (Some b) v e = let same : a.month ≡ b.month = cc in ap (λ m. verdict.Refused (refusal.RunOpen m)) same
run_alike Needed (Some a) (Some b) v e = refl

pub judged_by_its_facts : JudgedByItsFacts
judged_by_its_facts books run told facts keyed cut =
    ap (λ few. verdict_among few facts.receipts facts.open_run told) cut.rows
    ∙ run_alike (on_run told) facts.open_run run (decided (ruling (looked_at books told) facts.receipts told)) cut.month
    ∙ cut_judged books keyed run told facts.receipts cut.counted
