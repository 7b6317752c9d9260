-- The row that a batch's branch has of the run leads from the branches' rows before the batch to those with it.
use Rattle.std.proofs.Common.{◌≡◌, ◌⊎◌, ◌∙◌, refl, sym, ap, subst, inl, inr, ℕ, ◌+◌, ◌-◌, ◌*◌, ◌<◌, ◌≤◌, nat_lt, is_some, List, [], ◌∷◌, Some, take}
use Rattle.std.proofs.Common.{lt-ltb, le-ltb, ltb-true, arith}
use Rattle.std.specs.Prelude.{IfSome}
use Rattle.std.specs.Ordering.{nat_cmp}
use Rattle.std.specs.FinMap.{FinMap, get, keys}
use Rattle.std.proofs.lemmas.Bool.{cases_lt}
use Rattle.dh_types.specs.declared.lease.Charge.{Charge}
use Rattle.dh_types.specs.declared.fee.PartFee.{PartFee}
use Rattle.dh_types.specs.declared.version.Version.{Version}
use Rattle.dh_types.specs.declared.version.Version.TheVariants.{First, Second}
use Rattle.dh_model.specs.Books.{Books, pair_cmp, text_cmp, with_rows}
use Rattle.dh_model.specs.Kinds.{Kind}
use Rattle.dh_model.specs.Runs.{batch_of, batches_before, batches_of_branch, dues_of_branch, fee_at, fees_of_parts, part_fee_key, part_fee_of}
use Rattle.dh_model.specs.Runs.{part_key, part_of}
use Rattle.dh_model.specs.Runs.{posted_fees, posted_of_branch, posted_parts, since_second}
use Rattle.dh_model.specs.Rules.{MeetsRules}
use Rattle.dh_model.proofs.Among.{Among, in_filter, of_filter}
use Rattle.dh_model.proofs.KeyOrders.{nat_text_ties, nat_text_total, text_ties, text_total}
use Rattle.dh_model.proofs.MapRows.{cases_key}
use Rattle.dh_model.proofs.RunLemmas.{of_begun}
use Rattle.dh_laws.specs.InOrder.{AreKeyed}
use Rattle.dh_laws.proofs.BatchLemmas.Charged.{fee_month, fees_fit, part_month, parts_fit}
use Rattle.dh_laws.proofs.BatchLemmas.Dues.{fee_of_begun, is_begun, is_fee_of, of_second}
use Rattle.dh_laws.proofs.BatchLemmas.MonthRows.{Fits, of_new, replaced}
use Rattle.dh_model.specs.Whole.{with_posted}
use Rattle.dh_leases.specs.Plans.{HasItsFeeRow, some_row}
use Rattle.dh_leases.specs.Rows.{row_since_second}
use Rattle.dh_leases.proofs.BatchBranch.{IsHeld, branch_of_due, one_branch, own_dues, own_number, posted_with}
use Rattle.dh_leases.proofs.MonthRows.{led, was_free}
use Rattle.dh_leases.proofs.Places.{filter_alike}
use Rattle.dh_leases.proofs.RowLemmas.{no_rows}

-- a number is below the next of n as it is below n, where it is not n
next_below : (a n : ℕ) → (a ≡ n → ⊥) → nat_lt a n ≡ nat_lt a (n + 1)
next_below a n apart = elim (cases_lt a n) [
  | inl less ↦ lt-ltb a n less ∙ sym (lt-ltb a (n + 1) (omega (arith, less)))
  | inr more ↦ elim (cases_lt n a) [
    | inl above ↦ le-ltb a n more ∙ sym (le-ltb a (n + 1) (omega (arith, above)))
    | inr same ↦ absurd (apart (omega (arith, more, same)))
  ]
]

module _ (size : ℕ) (books : Books) (month : ℕ) where
  -- a row after n batches is that of a branch, whose first batch is among them
  pub record IsOfBranch {X : Type 0} (row : List ℕ → List Charge → X) (n : ℕ) (x : X) : Type 0 where
    pub branch : List ℕ
    pub of : Among (keys books.branches) branch
    pub early : batches_before size books month branch < n
    pub is : x ≡ row branch (posted_of_branch size books month n branch)

  -- rows of the branches whose first batch is among n, under the month and the branch
  pub record AreOfBranches {X : Type 0} (key : X → ℕ × List ℕ) (month_of : X → ℕ) (m : FinMap (pair_cmp nat_cmp text_cmp) X) (row : List ℕ → List Charge → X)
      (rows : ℕ → List X) : Type 0 where
    pub fit : (n : ℕ) → Fits key month_of m month (rows n)
    pub keyed : (branch : List ℕ) (charges : List Charge) → key (row branch charges) ≡ (month, branch)
    pub is_of : (n : ℕ) (x : X) → Among (rows n) x → IsOfBranch row n x
    pub of_branch : (n : ℕ) (branch : List ℕ) → Among (keys books.branches) branch → batches_before size books month branch < n
        → Among (rows n) (row branch (posted_of_branch size books month n branch))

module _ (size : ℕ) (books : Books) (month number : ℕ) (pos : 1 ≤ size) (keyed : AreKeyed books) (held : IsHeld size books month number) where
  abbrev own : List ℕ
  own = held.key

  -- the branch's charges with the batch
  abbrev so_far : List Charge
  so_far = take ((own_number size books month number pos (keyed Kind.Leases) held + 1) * size) (own_dues size books month number pos (keyed Kind.Leases) held)

  -- the other branches have what they had
  others_stay : (branch : List ℕ) → Among (keys books.branches) branch → (branch ≡ own → ⊥)
      → posted_of_branch size books month number branch ≡ posted_of_branch size books month (number + 1) branch
  others_stay branch of apart =
      filter_alike (λ charge. nat_lt (batch_of size books month branch charge) number)
      (λ charge. nat_lt (batch_of size books month branch charge) (number + 1))
      (dues_of_branch books month branch)
      (λ x due. next_below (batch_of size books month branch x) number
      (λ is. apart (branch_of_due size books month number pos (keyed Kind.Leases) held branch x of due is)))

  -- and begin with another batch
  others_begin : (branch : List ℕ) → Among (keys books.branches) branch → (branch ≡ own → ⊥) → batches_before size books month branch < number + 1
      → batches_before size books month branch < number
  others_begin branch of apart early = elim (cases_lt (batches_before size books month branch) number) [
    | inl less ↦ less
    | inr first ↦
        let some : 1 ≤ batches_of_branch size books month branch = omega arith in
        let its : IsHeld size books month number = record {
          key = branch;
          of = of;
          from = omega (arith, early);
          until = omega (arith, first, some);
        } in
        absurd (apart (one_branch size books month number its held))
  ]

  module _ {X : Type 0} {key : X → ℕ × List ℕ} {month_of : X → ℕ} {m : FinMap (pair_cmp nat_cmp text_cmp) X}
      {row : List ℕ → List Charge → X} {rows : ℕ → List X}
      (are : AreOfBranches size books month key month_of m row rows) where
    abbrev its : X
    its = row own so_far

    its_is : its ≡ row own (posted_of_branch size books month (number + 1) own)
    its_is = ap (row own) (sym (posted_with size books month number pos (keyed Kind.Leases) held))

    is_new : (x : X) → Among (its ∷ []) x → Among (rows (number + 1)) x
    is_new x (inl e) =
        subst (λ r. Among (rows (number + 1)) r) (sym (e ∙ its_is)) (are.of_branch (number + 1) own held.of (omega (arith, held.from)))
    is_new x (inr a) = absurd a

    still_or_replaced : (x : X) → Among (rows number) x → Among (rows (number + 1)) x ⊎ ((y : X) × Among (its ∷ []) y × (key y ≡ key x))
    still_or_replaced x a =
        let p = are.is_of number x a in
        elim (cases_key text_total text_ties p.branch own) [
          | inl same ↦
              inr (
                its,
                inl refl,
                are.keyed own so_far ∙ (λ i. (month, sym same i))
                    ∙ sym (ap key p.is ∙ are.keyed p.branch (posted_of_branch size books month number p.branch)),
              )
          | inr apart ↦
              inl (subst (λ q. Among (rows (number + 1)) q) (ap (row p.branch) (sym (others_stay p.branch p.of apart)) ∙ sym p.is)
              (are.of_branch (number + 1) p.branch p.of (omega (arith, p.early))))
        ]

    new_or_before : (x : X) → Among (rows (number + 1)) x → Among (its ∷ []) x ⊎ Among (rows number) x
    new_or_before x a =
        let p = are.is_of (number + 1) x a in
        elim (cases_key text_total text_ties p.branch own) [
          | inl same ↦ inl (inl (p.is ∙ ap (λ b. row b (posted_of_branch size books month (number + 1) b)) same ∙ sym its_is))
          | inr apart ↦
              inr (subst (λ q. Among (rows number) q) (ap (row p.branch) (others_stay p.branch p.of apart) ∙ sym p.is)
              (are.of_branch number p.branch p.of (others_begin p.branch p.of apart p.early)))
        ]

    pub row_led : with_rows key (its ∷ []) (replaced key month_of m month (rows number)) ≡ replaced key month_of m month (rows (number + 1))
    row_led =
        led key month_of nat_text_total nat_text_ties m month (rows number) (rows (number + 1)) (are.fit number) (are.fit (number + 1)) (its ∷ []) is_new
        still_or_replaced new_or_before

    -- the branch has a row where this is not its first batch
    pub had_row : nat_lt 0 (own_number size books month number pos (keyed Kind.Leases) held)
        ≡ is_some (get (replaced key month_of m month (rows number)) (key its))
    had_row = elim (cases_lt (batches_before size books month own) number) [
      | inl less ↦
          let charges = posted_of_branch size books month number own in
          let there = of_new key month_of nat_text_total nat_text_ties m month (rows number) (are.fit number) (row own charges)
          (are.of_branch number own held.of less) in
          lt-ltb 0 (number - batches_before size books month own) (omega (arith, less))
          ∙ sym (ap (λ k. is_some (get (replaced key month_of m month (rows number)) k)) (are.keyed own so_far ∙ sym (are.keyed own charges))
          ∙ ap is_some there)
      | inr first ↦
          let free = was_free key month_of nat_text_total nat_text_ties m month (rows number) (rows (number + 1)) (are.fit number) (are.fit (number + 1)) its
          (is_new its (inl refl))
          (λ y a e.
          let p = are.is_of number y a in
          let same : p.branch ≡ own =
          ap (λ (k : ℕ × List ℕ). k.1) (sym (ap key p.is ∙ are.keyed p.branch (posted_of_branch size books month number p.branch))
          ∙ e ∙ are.keyed own so_far) in
          let early : batches_before size books month own < number = subst (λ b. batches_before size books month b < number) same p.early in
          omega (arith, first, early)) in
          le-ltb 0 (number - batches_before size books month own) (omega (arith, first)) ∙ sym (ap is_some free)
    ]

module _ (size : ℕ) (books : Books) (month : ℕ) (keyed : AreKeyed books) (rules : MeetsRules books size) where
  pub part_rows : AreOfBranches size books month part_key part_month books.parts (part_of month) (posted_parts size books month)
  part_rows = record {
    fit = parts_fit size books keyed rules month;
    keyed = λ branch charges. refl;
    is_of = λ n x a. let p = is_begun size books month n x a in record { branch = p.branch; of = p.of; early = p.early; is = p.is };
    of_branch = of_begun size books month;
  }

  fee_rows : books.version ≡ Second
      → AreOfBranches size books month part_fee_key fee_month books.part_fees (λ branch. part_fee_of month branch (fee_at books branch))
      (posted_fees size books month)
  fee_rows second = record {
    fit = fees_fit size books keyed rules month;
    keyed = λ branch charges. refl;
    is_of = λ n x a.
        let f = is_fee_of size books month n x a in
        let kept = in_filter (λ b. nat_lt (batches_before size books month b) n) (keys books.branches) f.branch f.begun in
        record { branch = f.branch; of = kept.0; early = ltb-true (batches_before size books month f.branch) n kept.1; is = f.is };
    of_branch = λ n branch a early.
        of_second books.version (fees_of_parts size books month n) _ second
        (fee_of_begun size books month n branch
        (of_filter (λ b. nat_lt (batches_before size books month b) n) (keys books.branches) branch
        (lt-ltb (batches_before size books month branch) n early) a));
  }

  module _ (number : ℕ) (pos : 1 ≤ size) (held : IsHeld size books month number) where
    abbrev fee : PartFee
    fee = part_fee_of month held.key (fee_at books held.key) (so_far size books month number pos keyed held)

    abbrev after : ℕ → Version → FinMap (pair_cmp nat_cmp text_cmp) PartFee
    after n version = replaced part_fee_key fee_month books.part_fees month (since_second version (fees_of_parts size books month n))

    led_by : (version : Version) → books.version ≡ version
        → with_rows part_fee_key (some_row (row_since_second version fee)) (after number books.version) ≡ after (number + 1) books.version
    led_by First is = no_rows nat_text_total nat_text_ties part_fee_key (after number books.version) ∙ ap (after number) is ∙ sym (ap (after (number + 1)) is)
    led_by Second is = row_led size books month number pos keyed held (fee_rows is)

    pub fees_led : with_rows part_fee_key (some_row (row_since_second books.version fee)) (after number books.version) ≡ after (number + 1) books.version
    fees_led = led_by books.version refl

    -- the branch has a fee row where this is not its first batch
    abbrev Had : PartFee → Type 0
    Had = HasItsFeeRow (nat_lt 0 (own_number size books month number pos (keyed Kind.Leases) held))
        (record { books = with_posted size books month number; open_run = Some (record { month = month; done = number }) })

    had_by : (version : Version) → books.version ≡ version → IfSome (row_since_second version fee) Had
    had_by First is = tt
    had_by Second is = record { second = is; known = had_row size books month number pos keyed held (fee_rows is) }

    pub had_fee : IfSome (row_since_second books.version fee) Had
    had_fee = had_by books.version refl
