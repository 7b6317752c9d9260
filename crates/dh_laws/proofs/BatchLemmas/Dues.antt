-- What is charged falls due on a lease of the books, and a lease and an index say what.
use Rattle.std.proofs.Common.{◌≡◌, ◌∙◌, refl, sym, ap, subst, ℕ, ◌<◌, nat_lt, List, ltb-true, lt-ltb}
use Rattle.std.specs.FinMap.{get, keys, values}
use Rattle.dh_types.specs.declared.lease.Lease.{Lease}
use Rattle.dh_types.specs.declared.lease.Charge.{Charge}
use Rattle.dh_types.specs.declared.run.Part.{Part}
use Rattle.dh_types.specs.declared.fee.PartFee.{PartFee}
use Rattle.dh_types.specs.declared.version.Version.{Version}
use Rattle.dh_types.specs.declared.version.Version.TheVariants.{First, Second}
use Rattle.dh_model.specs.Books.{Books, StandUnder}
use Rattle.dh_model.specs.Leases.{due, dues, dues_among, length_of}
use Rattle.dh_model.specs.Runs.{batch_of, batches_before, begun_branches, charge_key, dues_of_branch, is_property_of, leases_of_branch, part_key, part_of}
use Rattle.dh_model.specs.Runs.{fee_at, fees_of_parts, part_fee_key, part_fee_of, posted_charges, posted_fees, posted_of_branch, posted_parts, since_second}
use Rattle.dh_model.proofs.Among.{Among, in_filter, in_flat_map, in_map, of_filter, of_flat_map, of_map}
use Rattle.dh_model.proofs.DueLemmas.{is_due}
use Rattle.dh_model.proofs.KeyOrders.{nat_ties, nat_total}
use Rattle.dh_laws.proofs.MapMerges.{one_row}
use Rattle.dh_laws.proofs.BatchLemmas.MonthRows.{OneEach}

-- falls due on a lease of the books, in some month
pub record IsOwed (books : Books) (charge : Charge) : Type 0 where
  pub lease : Lease
  pub k : ℕ
  pub of : Among (values books.leases) lease
  pub within : k < length_of books.endings lease
  pub is : charge ≡ due lease k

module _ (books : Books) where
  owed_among : (month : ℕ) (leases : List Lease) (charge : Charge) → ((lease : Lease) → Among leases lease → Among (values books.leases) lease)
      → Among (dues_among books.endings leases month) charge → IsOwed books charge × (charge.month ≡ month)
  owed_among month leases charge some a =
      let d = is_due books.endings leases month charge a in
      (record { lease = d.lease; k = d.k; of = some d.lease d.of; within = d.within; is = d.is }, d.month_is)

  pub owed_due : (month : ℕ) (charge : Charge) → Among (dues books month) charge → IsOwed books charge × (charge.month ≡ month)
  owed_due month charge a = owed_among month (values books.leases) charge (λ lease b. b) a

  pub owed_of_branch : (month : ℕ) (branch : List ℕ) (charge : Charge) → Among (dues_of_branch books month branch) charge → IsOwed books charge
      × (charge.month ≡ month)
  owed_of_branch month branch charge a =
      owed_among month (leases_of_branch books branch) charge
      (λ lease b. (in_filter (λ l. is_property_of branch (get books.properties l.terms.property)) (values books.leases) lease b).0) a

  -- a lease and an index are of one charge
  pub one_charge : StandUnder (λ lease. lease.terms.number) books.leases → (x y : Charge) → IsOwed books x → IsOwed books y → charge_key x ≡ charge_key y
      → x ≡ y
  one_charge keyed x y a b same =
      let a_key : charge_key x ≡ (a.lease.terms.number, a.k) = ap charge_key a.is in
      let b_key : charge_key y ≡ (b.lease.terms.number, b.k) = ap charge_key b.is in
      let keys_same : (a.lease.terms.number, a.k) ≡ (b.lease.terms.number, b.k) = sym a_key ∙ same ∙ b_key in
      let number : a.lease.terms.number ≡ b.lease.terms.number = ap (λ (p : ℕ × ℕ). p.0) keys_same in
      let index : a.k ≡ b.k = ap (λ (p : ℕ × ℕ). p.1) keys_same in
      let lease = one_row nat_total nat_ties (λ (lease : Lease). lease.terms.number) books.leases keyed a.lease b.lease a.of b.of number in
      a.is ∙ (λ i. due (lease i) (index i)) ∙ sym b.is

-- a charge that is posted after n batches is some branch's due, of a batch among them
pub record IsPosted (size : ℕ) (books : Books) (month n : ℕ) (charge : Charge) : Type 0 where
  pub branch : List ℕ
  pub of : Among (keys books.branches) branch
  pub due : Among (dues_of_branch books month branch) charge
  pub early : batch_of size books month branch charge < n

-- a part row after n batches is that of a branch, whose first batch is among them
pub record IsBegun (size : ℕ) (books : Books) (month n : ℕ) (part : Part) : Type 0 where
  pub branch : List ℕ
  pub of : Among (keys books.branches) branch
  pub early : batches_before size books month branch < n
  pub is : part ≡ part_of month branch (posted_of_branch size books month n branch)

module _ (size : ℕ) (books : Books) (month n : ℕ) where
  pub is_posted : (charge : Charge) → Among (posted_charges size books month n) charge → IsPosted size books month n charge
  is_posted charge a =
      let of = in_flat_map (posted_of_branch size books month n) (keys books.branches) charge a in
      let kept = in_filter (λ c. nat_lt (batch_of size books month of.0 c) n) (dues_of_branch books month of.0) charge of.2 in
      record { branch = of.0; of = of.1; due = kept.0; early = ltb-true (batch_of size books month of.0 charge) n kept.1 }

  pub of_posted : (charge : Charge) → IsPosted size books month n charge → Among (posted_charges size books month n) charge
  of_posted charge p =
      of_flat_map (posted_of_branch size books month n) (keys books.branches) p.branch charge p.of
      (of_filter (λ c. nat_lt (batch_of size books month p.branch c) n) (dues_of_branch books month p.branch) charge
      (lt-ltb (batch_of size books month p.branch charge) n p.early) p.due)

  pub owed_posted : (charge : Charge) → Among (posted_charges size books month n) charge → IsOwed books charge × (charge.month ≡ month)
  owed_posted charge a = let p = is_posted charge a in owed_of_branch books month p.branch charge p.due

  pub is_begun : (part : Part) → Among (posted_parts size books month n) part → IsBegun size books month n part
  is_begun part a =
      let of = in_map (λ b. part_of month b (posted_of_branch size books month n b)) (begun_branches size books month n) part a in
      let kept = in_filter (λ b. nat_lt (batches_before size books month b) n) (keys books.branches) of.0 of.1 in
      record { branch = of.0; of = kept.0; early = ltb-true (batches_before size books month of.0) n kept.1; is = of.2 }

  pub one_posted : StandUnder (λ lease. lease.terms.number) books.leases → OneEach charge_key (posted_charges size books month n)
  one_posted keyed x y a b same = one_charge books keyed x y (owed_posted x a).0 (owed_posted y b).0 same

  pub one_begun : OneEach part_key (posted_parts size books month n)
  one_begun x y a b same =
      let p = is_begun x a in
      let q = is_begun y b in
      let branch : p.branch ≡ q.branch =
      sym (ap (λ (part : Part). part.branch) p.is) ∙ ap (λ (k : ℕ × List ℕ). k.1) same ∙ ap (λ (part : Part). part.branch) q.is in
      p.is ∙ ap (λ branch. part_of month branch (posted_of_branch size books month n branch)) branch ∙ sym q.is

  pub month_of_begun : (part : Part) → Among (posted_parts size books month n) part → part.month ≡ month
  month_of_begun part a = ap (λ (p : Part). p.month) (is_begun part a).is

-- what stands among rows that came with the second version
pub in_second : {X : Type 0} (version : Version) (rows : List X) (x : X) → Among (since_second version rows) x → (version ≡ Second) × Among rows x
in_second First rows x a = absurd a
in_second Second rows x a = (refl, a)

pub of_second : {X : Type 0} (version : Version) (rows : List X) (x : X) → version ≡ Second → Among rows x → Among (since_second version rows) x
of_second version rows x is a = subst (λ v. Among (since_second v rows) x) (sym is) a

-- a fee row after n batches is that of a branch, whose first batch is among them
pub record IsFeeOf (size : ℕ) (books : Books) (month n : ℕ) (fee : PartFee) : Type 0 where
  pub branch : List ℕ
  pub begun : Among (begun_branches size books month n) branch
  pub is : fee ≡ part_fee_of month branch (fee_at books branch) (posted_of_branch size books month n branch)

module _ (size : ℕ) (books : Books) (month n : ℕ) where
  pub fee_of_begun : (branch : List ℕ) → Among (begun_branches size books month n) branch
      → Among (fees_of_parts size books month n) (part_fee_of month branch (fee_at books branch) (posted_of_branch size books month n branch))
  fee_of_begun branch a =
      of_map (λ b. part_fee_of month b (fee_at books b) (posted_of_branch size books month n b)) (begun_branches size books month n) branch a

  pub is_fee_of : (fee : PartFee) → Among (posted_fees size books month n) fee → IsFeeOf size books month n fee
  is_fee_of fee a =
      let of = in_map (λ b. part_fee_of month b (fee_at books b) (posted_of_branch size books month n b)) (begun_branches size books month n) fee
      (in_second books.version (fees_of_parts size books month n) fee a).1 in
      record { branch = of.0; begun = of.1; is = of.2 }

  pub month_of_fee : (fee : PartFee) → Among (posted_fees size books month n) fee → fee.month ≡ month
  month_of_fee fee a = ap (λ (f : PartFee). f.month) (is_fee_of fee a).is

  pub one_fee : OneEach part_fee_key (posted_fees size books month n)
  one_fee x y a b same =
      let p = is_fee_of x a in
      let q = is_fee_of y b in
      let branch : p.branch ≡ q.branch =
      sym (ap (λ (f : PartFee). f.branch) p.is) ∙ ap (λ (k : ℕ × List ℕ). k.1) same ∙ ap (λ (f : PartFee). f.branch) q.is in
      p.is ∙ ap (λ branch. part_fee_of month branch (fee_at books branch) (posted_of_branch size books month n branch)) branch ∙ sym q.is
