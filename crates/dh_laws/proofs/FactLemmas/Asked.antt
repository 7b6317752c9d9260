-- The rows that a question is about answer it.
use Rattle.std.proofs.Common.{◌≡◌, ◌∙◌, refl, sym, ap, ap₂, ℕ, Bool, true, false, cond, if◌then◌else◌, ◌||◌, List, [], ◌∷◌, ◌++◌, map, Option}
use Rattle.std.proofs.Common.{Some, None, inl, inr, is_some, option_map, nat_eq, int_lt, pos, ◌-ℤ◌}
use Rattle.std.specs.List.{cons_option, filter, filter_map, list_any, sum_by}
use Rattle.std.specs.declared.cmp.Ordering.{Ordering}
use Rattle.std.specs.Cmp.{IsTotalOrder}
use Rattle.std.specs.FinMap.{FinMap, IsAntisymmetric, empty, get, get-empty, same_map, values}
use Rattle.std.proofs.lemmas.Bool.{cases_Bool}
use Rattle.std.proofs.lemmas.List.Folds.{list_any-append}
use Rattle.dh_values.specs.declared.receipt_kind.ReceiptKind.TheVariants.{Rent}
use Rattle.dh_types.specs.declared.field.TheConstants.{ASKED_ABOUT}
use Rattle.dh_types.specs.declared.property.Property.{Property}
use Rattle.dh_types.specs.declared.owner.Owner.{Owner}
use Rattle.dh_types.specs.declared.client.Client.{Client}
use Rattle.dh_types.specs.declared.lease.Lease.{Lease}
use Rattle.dh_types.specs.declared.lease.Charge.{Charge}
use Rattle.dh_types.specs.declared.lease.Receipt.{Receipt}
use Rattle.dh_types.specs.declared.run.Run.{Run}
use Rattle.dh_types.specs.declared.run.Part.{Part}
use Rattle.dh_types.specs.declared.fee.PartFee.{PartFee}
use Rattle.dh_types.specs.declared.question.Question.{Question}
use Rattle.dh_types.specs.declared.question.Question.TheVariants as asked
use Rattle.dh_types.specs.declared.question.OwnerMonth.{OwnerMonth}
use Rattle.dh_types.specs.declared.answer.Debt.{Debt}
use Rattle.dh_types.specs.declared.answer.OwnerLine.{OwnerLine}
use Rattle.dh_types.specs.declared.reply.Refusal.TheVariants as refusal
use Rattle.dh_types.specs.Records.{is_same_receipt_kind}
use Rattle.dh_types.specs.Reports.{Report, BranchArrears, LeaseStatement, NoReport, RunParts}
use Rattle.dh_types.proofs.SameValues.{numbers, texts}
use Rattle.dh_model.specs.declared.open_run.OpenRun.{OpenRun}
use Rattle.dh_model.specs.Answers.{answer_of, arrears, balance, charges_of, debt, debts, is_put_off, matching_report, owed, receipts_of}
use Rattle.dh_model.specs.Answers.{run_report, statement, unless_open}
use Rattle.dh_model.specs.Answers.{fee_of_part, line_of_lease, line_of_property, owner_charges, owner_line, owner_lines, owner_report}
use Rattle.dh_model.specs.Books.{Books}
use Rattle.dh_model.specs.Kinds.{Kind}
use Rattle.dh_model.specs.Checks.{is_same_text}
use Rattle.dh_model.specs.Runs.{charge_fee, is_property_of, leases_of_branch, sum_of, total_of}
use Rattle.dh_model.specs.Whole.{rows_where}
use Rattle.dh_model.proofs.Among.{Among, of_filter, of_passes, some_passes, in_filter}
use Rattle.dh_model.proofs.KeyOrders.{nat_text_ties, nat_text_total, nat_ties, nat_total, nats_tie, nats_total, text_ties, text_total}
use Rattle.dh_model.proofs.MapRows.{kept_if, of_row}
use Rattle.dh_laws.specs.AskedAbout.{AnsweredByItsRows, AreOfOneMonth, account_of, asked_about, is_owned_by}
use Rattle.dh_laws.specs.AskedAbout.{leases_of_owner}
use Rattle.dh_laws.specs.InOrder.{AreKeyed}
use Rattle.dh_laws.proofs.MapMerges.{get-rows_where, own_row}
use Rattle.dh_laws.proofs.FactLemmas.Narrowed.{filter_where, get_where, values_where}

same_text : (a b : List ℕ) → a ≡ b → is_same_text a b ≡ true
same_text a b e = (texts a b).1 e

same_number : (a b : ℕ) → a ≡ b → nat_eq a b ≡ true
same_number a b e = (numbers a b).1 e

-- ---- an open run

put_off : (run seen : Option OpenRun) (it : Report) → AreOfOneMonth seen run → unless_open seen it ≡ unless_open run it
put_off None None it e = refl
put_off (Some at) None it e = cc
put_off None (Some at) it e = cc
put_off (Some at) (Some seen) it e = let month : seen.month ≡ at.month = cc in ap (λ m. NoReport (refusal.RunOpen m)) month

by_run : (off : Bool) (run seen : Option OpenRun) (near far : Report) → near ≡ far → (off ≡ true → AreOfOneMonth seen run)
    → (if off then unless_open seen near else near) ≡ (if off then unless_open run far else far)
by_run true run seen near far is same = put_off run seen near (same refl) ∙ ap (unless_open run) is
by_run false run seen near far is same = is

-- ---- what is owed

-- mapped alike, what passes is picked alike
module _ {X Y : Type 0} (f g : X → Y) (p : Y → Bool) where
  picked_if : (b : Bool) (x : X) (ks ls : List X) → f x ≡ g x → map f ks ≡ map g ls → map f (cond b (x ∷ ks) ks) ≡ map g (cond b (x ∷ ls) ls)
  picked_if true x ks ls here rest = ap₂ (λ y ys. y ∷ ys) here rest
  picked_if false x ks ls here rest = rest

  pub picked_alike : (xs : List X) → ((x : X) → Among xs x → f x ≡ g x) → map f (filter (λ x. p (f x)) xs) ≡ map g (filter (λ x. p (g x)) xs)
  picked_alike [] same = refl
  picked_alike (x ∷ xs) same =
      let here = same x (inl refl) in
      let rest = picked_alike xs (λ y h. same y (inr h)) in
      picked_if (p (f x)) x (filter (λ x. p (f x)) xs) (filter (λ x. p (g x)) xs) here rest
      ∙ ap (λ y. map g (cond (p y) (x ∷ filter (λ x. p (g x)) xs) (filter (λ x. p (g x)) xs))) here

-- the balance of a lease is by what was charged and paid on it
balance_alike : (a b : Books) (lease : ℕ) → charges_of a lease ≡ charges_of b lease → receipts_of a lease ≡ receipts_of b lease
    → balance a lease ≡ balance b lease
balance_alike a b lease charges receipts =
    ap₂ (λ (cs : List Charge) (rs : List Receipt). pos (total_of cs)
    -ℤ pos (sum_by (λ receipt. receipt.payment.amount) (filter (λ receipt. is_same_receipt_kind receipt.payment.kind Rent) rs))) charges receipts

-- where what is passed over comes to nothing, nothing is missed
module _ {X Y : Type 0} (f : X → Option Y) (p : X → Bool) (none : (x : X) → p x ≡ false → f x ≡ None) where
  mapped_if : (b : Bool) (x : X) (kept rest : List Y) (xs : List X) → p x ≡ b → filter_map f xs ≡ kept → kept ≡ rest
      → filter_map f (cond b (x ∷ xs) xs) ≡ cons_option (f x) rest
  mapped_if true x kept rest xs e is same = ap (cons_option (f x)) (is ∙ same)
  mapped_if false x kept rest xs e is same = is ∙ same ∙ ap (λ y. cons_option y rest) (sym (none x e))

  mapped_where : (xs : List X) → filter_map f (filter p xs) ≡ filter_map f xs
  mapped_where [] = refl
  mapped_where (x ∷ xs) = mapped_if (p x) x (filter_map f (filter p xs)) (filter_map f xs) (filter p xs) refl refl (mapped_where xs)

module _ (books : Books) (keyed : AreKeyed books) where
  -- ---- one lease

  module _ (number : ℕ) where
    abbrev account : Books
    account = account_of books number

    charged_alike : charges_of account number ≡ charges_of books number
    charged_alike = filter_where nats_total nats_tie (λ (c : Charge). nat_eq c.lease number) (λ c. nat_eq c.lease number) (λ c h. h) books.charges

    paid_alike : receipts_of account number ≡ receipts_of books number
    paid_alike = filter_where nat_total nat_ties (λ (r : Receipt). nat_eq r.payment.lease number) (λ r. nat_eq r.payment.lease number) (λ r h. h) books.receipts

    lease_there : get account.leases number ≡ get books.leases number
    lease_there = get_where nat_total nat_ties (λ (l : Lease). nat_eq l.terms.number number) (λ l. l.terms.number) books.leases number (keyed Kind.Leases)
        (λ l e. same_number l.terms.number number e)

    stated : (found : Option Lease) → ((l : Lease) → found ≡ Some l → l.terms.number ≡ number) → statement account found ≡ statement books found
    stated None is = refl
    stated (Some lease) is =
        let its = is lease refl in
        let balances = balance_alike account books number charged_alike paid_alike in
        ap (λ n. LeaseStatement lease (charges_of account n) (receipts_of account n) (balance account n)) its
        ∙ (λ i. LeaseStatement lease (charged_alike i) (paid_alike i) (balances i))
        ∙ ap (λ n. LeaseStatement lease (charges_of books n) (receipts_of books n) (balance books n)) (sym its)

    statement_alike : statement account (get account.leases number) ≡ statement books (get books.leases number)
    statement_alike = ap (statement account) lease_there ∙ stated (get books.leases number) (keyed Kind.Leases number)

  -- ---- the leases at a branch

  module _ (branch : List ℕ) where
    abbrev accounts : Books
    accounts = asked_about books (asked.Arrears branch)

    abbrev its_leases : List Lease
    its_leases = leases_of_branch books branch

    leases_alike : leases_of_branch accounts branch ≡ its_leases
    leases_alike =
        let is_its : Lease → Bool = λ l. is_property_of branch (get books.properties l.terms.property) in
        filter_where nat_total nat_ties is_its is_its (λ l h. h) books.leases

    module _ (lease : Lease) (its : Among its_leases lease) where
      abbrev number : ℕ
      number = lease.terms.number

      charges_alike : charges_of accounts number ≡ charges_of books number
      charges_alike =
          filter_where nats_total nats_tie (λ (c : Charge). list_any (λ (l : Lease). nat_eq c.lease l.terms.number) its_leases)
          (λ c. nat_eq c.lease number) (λ c h. of_passes (λ (l : Lease). nat_eq c.lease l.terms.number) its_leases lease its h) books.charges

      receipts_alike : receipts_of accounts number ≡ receipts_of books number
      receipts_alike =
          filter_where nat_total nat_ties (λ (r : Receipt). list_any (λ (l : Lease). nat_eq r.payment.lease l.terms.number) its_leases)
          (λ r. nat_eq r.payment.lease number) (λ r h. of_passes (λ (l : Lease). nat_eq r.payment.lease l.terms.number) its_leases lease its h) books.receipts

      client_there : get accounts.clients lease.terms.client ≡ get books.clients lease.terms.client
      client_there =
          get_where text_total text_ties (λ (c : Client). list_any (λ (l : Lease). is_same_text c.number l.terms.client) its_leases)
          (λ c. c.number) books.clients lease.terms.client (keyed Kind.Clients)
          (λ c e. of_passes (λ (l : Lease). is_same_text c.number l.terms.client) its_leases lease its (same_text c.number lease.terms.client e))

      debt_alike : debt accounts lease ≡ debt books lease
      debt_alike =
          let balances = balance_alike accounts books number charges_alike receipts_alike in
          λ i. record {
            lease = lease.terms.number;
            client = lease.terms.client;
            balance = balances i;
            name = option_map (λ (client : Client). client.name) (client_there i);
          }

    debts_alike : debts accounts branch ≡ debts books branch
    debts_alike =
        let is_owing : Debt → Bool = λ d. int_lt (pos 0) d.balance in
        ap (λ ls. map (debt accounts) (filter (λ (l : Lease). is_owing (debt accounts l)) ls)) leases_alike
        ∙ picked_alike (debt accounts) (debt books) is_owing its_leases debt_alike

    branch_there : get accounts.branches branch ≡ get books.branches branch
    branch_there = get_where text_total text_ties (λ b. is_same_text b.number branch) (λ b. b.number) books.branches branch (keyed Kind.Branches)
        (λ b e. same_text b.number branch e)

    arrears_alike : arrears accounts branch ≡ arrears books branch
    arrears_alike = λ i. cond (is_some (branch_there i)) (BranchArrears (debts_alike i) (owed books (debts_alike i))) (NoReport (refusal.Unknown ASKED_ABOUT))

  -- ---- the run of a month

  module _ (month : ℕ) where
    abbrev of_month : Books
    of_month = asked_about books (asked.Run month)

    run_there : get of_month.runs month ≡ get books.runs month
    run_there = get_where nat_total nat_ties (λ (r : Run). nat_eq r.month month) (λ r. r.month) books.runs month (keyed Kind.Runs)
        (λ r e. same_number r.month month e)

    parts_alike : filter (λ (p : Part). nat_eq p.month month) (values of_month.parts) ≡ filter (λ p. nat_eq p.month month) (values books.parts)
    parts_alike = filter_where nat_text_total nat_text_ties (λ (p : Part). nat_eq p.month month) (λ p. nat_eq p.month month) (λ p h. h) books.parts

    abbrev told : Run → List Part → Report
    told run parts = cond run.is_closed (RunParts parts (sum_of run)) (NoReport refusal.NoRun)

    reported : (found : Option Run) → ((r : Run) → found ≡ Some r → r.month ≡ month) → run_report of_month found ≡ run_report books found
    reported None is = refl
    reported (Some run) is =
        let its = is run refl in
        ap (λ m. told run (filter (λ (p : Part). nat_eq p.month m) (values of_month.parts))) its
        ∙ ap (told run) parts_alike
        ∙ ap (λ m. told run (filter (λ (p : Part). nat_eq p.month m) (values books.parts))) (sym its)

    run_alike : run_report of_month (get of_month.runs month) ≡ run_report books (get books.runs month)
    run_alike = ap (run_report of_month) run_there ∙ reported (get books.runs month) (keyed Kind.Runs month)

  -- ---- what a month charged on an owner's properties

  module _ (it : OwnerMonth) where
    abbrev near_owner : Books
    near_owner = asked_about books (asked.Owner it)

    abbrev is_owned : Lease → Bool
    is_owned lease = is_owned_by it.owner (get books.properties lease.terms.property)

    fee_there : (branch : List ℕ) → get near_owner.part_fees (it.month, branch) ≡ get books.part_fees (it.month, branch)
    fee_there branch = get_where nat_text_total nat_text_ties (λ (fee : PartFee). nat_eq fee.month it.month) (λ fee. (fee.month, fee.branch))
        books.part_fees (it.month, branch) (keyed Kind.PartFees)
        (λ fee e. same_number fee.month it.month (ap (λ (k : ℕ × List ℕ). k.0) e))

    abbrev is_the_owners : Property → Bool
    is_the_owners property = is_same_text property.owner it.owner

    kept_there : (found : Option Property) → is_owned_by it.owner found ≡ true → kept_if is_the_owners found ≡ found
    kept_there None e = refl
    kept_there (Some property) e = ap (λ b. cond b (Some property) None) e

    -- the owner's property is there
    property_there : (number : List ℕ) → is_owned_by it.owner (get books.properties number) ≡ true
        → get near_owner.properties number ≡ get books.properties number
    property_there number e = get-rows_where text_total text_ties is_the_owners books.properties number ∙ kept_there (get books.properties number) e

    -- another's property has no line
    not_owned_line : (charge : Charge) (found : Option Property) → is_owned_by it.owner found ≡ false → line_of_property books it.owner charge found ≡ None
    not_owned_line charge None e = refl
    not_owned_line charge (Some property) e = ap (λ b. if b then Some (record {
      lease = charge.lease;
      property = property.number;
      amount = charge.amount;
      fee = charge_fee (fee_of_part (get books.part_fees (charge.month, property.branch))) charge;
    }) else None) e

    module _ (charge : Charge) (month : charge.month ≡ it.month) where
      fee_then : (branch : List ℕ) → get near_owner.part_fees (charge.month, branch) ≡ get books.part_fees (charge.month, branch)
      fee_then branch =
          ap (λ m. get near_owner.part_fees (m, branch)) month ∙ fee_there branch ∙ sym (ap (λ m. get books.part_fees (m, branch)) month)

      property_alike : (found : Option Property) → line_of_property near_owner it.owner charge found ≡ line_of_property books it.owner charge found
      property_alike None = refl
      property_alike (Some property) = ap (λ fee. if is_same_text property.owner it.owner then Some (record {
        lease = charge.lease;
        property = property.number;
        amount = charge.amount;
        fee = charge_fee (fee_of_part fee) charge;
      }) else None) (fee_then property.branch)

      -- a lease of another's property has no line
      kept_alike_by : (b : Bool) (lease : Lease) → is_owned lease ≡ b
          → line_of_lease near_owner it.owner charge (cond b (Some lease) None) ≡ line_of_lease books it.owner charge (Some lease)
      kept_alike_by true lease e =
          ap (line_of_property near_owner it.owner charge) (property_there lease.terms.property e)
          ∙ property_alike (get books.properties lease.terms.property)
      kept_alike_by false lease e = sym (not_owned_line charge (get books.properties lease.terms.property) e)

      lease_alike : (found : Option Lease) → line_of_lease near_owner it.owner charge (kept_if is_owned found) ≡ line_of_lease books it.owner charge found
      lease_alike None = refl
      lease_alike (Some lease) = kept_alike_by (is_owned lease) lease refl

      its_line : line_of_lease near_owner it.owner charge (get near_owner.leases charge.lease)
          ≡ line_of_lease books it.owner charge (get books.leases charge.lease)
      its_line =
          ap (line_of_lease near_owner it.owner charge) (get-rows_where nat_total nat_ties is_owned books.leases charge.lease)
          ∙ lease_alike (get books.leases charge.lease)

    line_if : (b : Bool) (charge : Charge) → nat_eq charge.month it.month ≡ b
        → (if b then line_of_lease near_owner it.owner charge (get near_owner.leases charge.lease) else None)
        ≡ (if b then line_of_lease books it.owner charge (get books.leases charge.lease) else None)
    line_if true charge e = its_line charge ((numbers charge.month it.month).0 e)
    line_if false charge e = refl

    line_alike : (charge : Charge) → owner_line near_owner it charge ≡ owner_line books it charge
    line_alike charge = line_if (nat_eq charge.month it.month) charge refl

    -- a charge that has a line is on a lease of the owner's
    abbrev is_of_lease : Charge → Bool
    is_of_lease charge = list_any (λ (lease : Lease). nat_eq charge.lease lease.terms.number) (leases_of_owner books it.owner)

    no_line_of : (charge : Charge) (found : Option Lease) → get books.leases charge.lease ≡ found → is_of_lease charge ≡ false
        → line_of_lease books it.owner charge found ≡ None
    no_line_of charge None e none = refl
    no_line_of charge (Some lease) e none = elim (cases_Bool (is_owned lease)) [
      | inl owned ↦ absurd (
          let its = of_passes (λ (l : Lease). nat_eq charge.lease l.terms.number) (leases_of_owner books it.owner) lease
          (of_filter is_owned (values books.leases) lease owned (of_row nat_total nat_ties books.leases charge.lease lease e))
          (same_number charge.lease lease.terms.number (sym (keyed Kind.Leases charge.lease lease e))) in
          cc)
      | inr other ↦ not_owned_line charge (get books.properties lease.terms.property) other
    ]

    no_line_if : (b : Bool) (charge : Charge) → is_of_lease charge ≡ false
        → (if b then line_of_lease books it.owner charge (get books.leases charge.lease) else None) ≡ None
    no_line_if true charge none = no_line_of charge (get books.leases charge.lease) refl none
    no_line_if false charge none = refl

    lines_alike : owner_lines near_owner it ≡ owner_lines books it
    lines_alike =
        ap (λ (f : Charge → Option OwnerLine). filter_map f (values near_owner.charges)) (λ i charge. line_alike charge i)
        ∙ ap (filter_map (owner_line books it)) (values_where nats_total nats_tie is_of_lease books.charges)
        ∙ mapped_where (owner_line books it) is_of_lease (λ charge none. no_line_if (nat_eq charge.month it.month) charge none) (values books.charges)

    owner_there : get near_owner.owners it.owner ≡ get books.owners it.owner
    owner_there = get_where text_total text_ties (λ (o : Owner). is_same_text o.number it.owner) (λ o. o.number) books.owners it.owner (keyed Kind.Owners)
        (λ o e. same_text o.number it.owner e)

    run_of_month : get near_owner.runs it.month ≡ get books.runs it.month
    run_of_month = get_where nat_total nat_ties (λ (r : Run). nat_eq r.month it.month) (λ r. r.month) books.runs it.month (keyed Kind.Runs)
        (λ r e. same_number r.month it.month e)

    owner_reported : (owner : Option Owner) (run : Option Run) → owner_report near_owner it owner run ≡ owner_report books it owner run
    owner_reported None run = refl
    owner_reported (Some owner) None = refl
    owner_reported (Some owner) (Some run) = ap (λ lines. cond run.is_closed (owner_charges lines) (NoReport refusal.NoRun)) lines_alike

    owner_alike : owner_report near_owner it (get near_owner.owners it.owner) (get near_owner.runs it.month)
        ≡ owner_report books it (get books.owners it.owner) (get books.runs it.month)
    owner_alike = ap₂ (owner_report near_owner it) owner_there run_of_month ∙ owner_reported (get books.owners it.owner) (get books.runs it.month)

  alike : (question : Question) → answer_of (asked_about books question) question ≡ answer_of books question
  alike asked.Branches = refl
  alike (asked.Vacant day) = refl
  alike (asked.Matching it) =
      ap (λ (found : Option Client). matching_report books found it.day)
      (get_where text_total text_ties (λ (c : Client). is_same_text c.number it.client) (λ c. c.number) books.clients it.client (keyed Kind.Clients)
      (λ c e. same_text c.number it.client e))
  alike (asked.Statement lease) = statement_alike lease
  alike (asked.Arrears branch) = arrears_alike branch
  alike (asked.Run month) = run_alike month
  alike (asked.Owner it) = owner_alike it

pub answered_by_its_rows : AnsweredByItsRows
answered_by_its_rows books run seen question keyed same = by_run (is_put_off question) run seen _ _ (alike books keyed question) same

-- ---- the leases of some properties, by the numbers of these

same_bool : (a b : Bool) → (a ≡ true → b ≡ true) → (b ≡ true → a ≡ true) → a ≡ b
same_bool true b there back = sym (there refl)
same_bool false true there back = back refl
same_bool false false there back = refl

module _ (books : Books) (keyed : AreKeyed books) (is_its : Option Property → Bool) (none : is_its None ≡ false) where
  abbrev its : List Property
  its = filter (λ property. is_its (Some property)) (values books.properties)

  abbrev is_named : List ℕ → Property → Bool
  is_named number property = is_same_text number property.number

  named_there : (number : List ℕ) (found : Option Property) → get books.properties number ≡ found → is_its found ≡ true
      → list_any (is_named number) its ≡ true
  named_there number None is h = cc
  named_there number (Some property) is h =
      of_passes (is_named number) its property
      (of_filter (λ p. is_its (Some p)) (values books.properties) property h (of_row text_total text_ties books.properties number property is))
      (same_text number property.number (sym (keyed Kind.Properties number property is)))

  there_named : (number : List ℕ) → list_any (is_named number) its ≡ true → is_its (get books.properties number) ≡ true
  there_named number h =
      let named = some_passes (is_named number) its h in
      let among = in_filter (λ p. is_its (Some p)) (values books.properties) named.0 named.1 in
      let own = own_row text_total text_ties (λ (p : Property). p.number) books.properties (keyed Kind.Properties) named.0 among.0 in
      ap (λ n. is_its (get books.properties n)) ((texts number named.0.number).0 named.2) ∙ ap is_its own ∙ among.1

  pub of_one_named : (number : List ℕ) → list_any (is_named number) its ≡ is_its (get books.properties number)
  of_one_named number = same_bool _ _ (there_named number) (named_there number (get books.properties number) refl)

-- ---- rows put together one look-up after the other

pub mapped_any : {X Y : Type 0} (f : X → Y) (p : Y → Bool) (xs : List X) → list_any p (map f xs) ≡ list_any (λ x. p (f x)) xs
mapped_any f p [] = refl
mapped_any f p (x ∷ xs) = ap (λ b. p (f x) || b) (mapped_any f p xs)

-- none is asked for
pub none_where : {K X : Type 0} {R : K → K → Ordering} → IsTotalOrder R → IsAntisymmetric R → (m : FinMap R X) → rows_where (λ _. false) m ≡ empty
none_where {X = X} {R = R} o anti m = same_map o anti _ _ (λ q. get-rows_where o anti (λ _. false) m q ∙ left_out (get m q) ∙ sym (get-empty R q))
  where
    left_out : (found : Option X) → kept_if (λ _. false) found ≡ None
    left_out None = refl
    left_out (Some x) = refl

or_no_more : (b : Bool) → (b || false) ≡ b
or_no_more true = refl
or_no_more false = refl

-- one more is asked for
pub one_more : {A X : Type 0} (asks : X → A → Bool) (before : List A) (a : A)
    → ◌≡◌ {A = X → Bool} (λ x. list_any (asks x) before || asks x a) (λ x. list_any (asks x) (before ++ a ∷ []))
one_more asks before a = λ i x. (ap (λ b. list_any (asks x) before || b) (sym (or_no_more (asks x a))) ∙ sym (list_any-append (asks x) before (a ∷ []))) i

module _ (books : Books) (keyed : AreKeyed books) (is_its : Option Property → Bool) (none : is_its None ≡ false) where
  -- the leases on the properties of these numbers are those of the properties that are picked
  pub named_leases : (named : List (List ℕ)) → named ≡ map (λ p. p.number) (filter (λ p. is_its (Some p)) (values books.properties))
      → rows_where (λ (l : Lease). list_any (is_same_text l.terms.property) named) books.leases
      ≡ rows_where (λ (l : Lease). is_its (get books.properties l.terms.property)) books.leases
  named_leases named are =
      ap (λ (test : Lease → Bool). rows_where test books.leases)
      (λ i l. (ap (list_any (is_same_text l.terms.property)) are ∙ mapped_any (λ (p : Property). p.number) (is_same_text l.terms.property) _
      ∙ of_one_named books keyed is_its none l.terms.property) i)

-- and a list of them
pub listed_leases : (books : Books) (is_its : Option Property → Bool)
    → values (rows_where (λ (l : Lease). is_its (get books.properties l.terms.property)) books.leases)
    ≡ filter (λ (l : Lease). is_its (get books.properties l.terms.property)) (values books.leases)
listed_leases books is_its = values_where nat_total nat_ties (λ l. is_its (get books.properties l.terms.property)) books.leases
