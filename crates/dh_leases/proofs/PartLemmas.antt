-- What a branch has of a run, lease by lease.
use Rattle.std.proofs.Common.{◌≡◌, ◌∙◌, refl, sym, ap, inl, inr, ℕ, ◌+◌, ◌-◌, ◌≤◌, Bool, true, false, cond, nat_eq, List, [], ◌∷◌, ◌++◌, length, Some}
use Rattle.std.proofs.Common.{None, append-nil, arith, length-append}
use Rattle.std.specs.List.{filter, flat_map}
use Rattle.std.specs.FinMap.{FinMap, get}
use Rattle.std.specs.BTreeMap.{is_at}
use Rattle.std.specs.Cmp.Lexicographic.{texts_ties}
use Rattle.std.proofs.lemmas.Bool.{cases_lt}
use Rattle.std.proofs.lemmas.List.Elements.{filter-append}
use Rattle.std.proofs.lemmas.List.Sums.{count_by-le-length, length-filter}
use Rattle.std.proofs.lemmas.Grind.{flat_map-append}
use Rattle.dh_days.specs.Days.{month_of_day, plus_months}
use Rattle.dh_types.specs.declared.property.Property.{Property}
use Rattle.dh_types.specs.declared.lease.Lease.{Lease}
use Rattle.dh_types.specs.declared.lease.Charge.{Charge}
use Rattle.dh_model.specs.Books.{Endings, text_cmp}
use Rattle.dh_model.specs.Leases.{dues_among, dues_of, length_of}
use Rattle.dh_model.specs.Runs.{is_property_of}
use Rattle.dh_leases.proofs.DueIn.{its_due, none_after, none_before}

-- of one lease's dues a month has one at most
pub at_most_one : (endings : Endings) (lease : Lease) (month : ℕ) → length (dues_among endings (lease ∷ []) month) ≤ 1
at_most_one endings lease month =
    let first = month_of_day lease.terms.start in
    elim (cases_lt month first) [
      | inl early ↦ omega (arith, ap length (none_before endings lease month early))
      | inr reached ↦ elim (cases_lt month (first + length_of endings lease)) [
        | inl within ↦
            let k = month - first in
            let one = its_due endings lease month k k month (plus_months lease.terms.start k) (omega (arith, reached)) (omega (arith, reached, within))
            refl refl refl in
            omega (arith, ap length one)
        | inr late ↦ omega (arith, ap length (none_after endings lease month late))
      ]
    ]

pub dues_of_two : (endings : Endings) (xs ys : List Lease) (month : ℕ)
    → dues_among endings (xs ++ ys) month ≡ dues_among endings xs month ++ dues_among endings ys month
dues_of_two endings xs ys month =
    ap (filter (λ charge. nat_eq charge.month month)) (flat_map-append (dues_of endings) xs ys)
    ∙ filter-append (λ charge. nat_eq charge.month month) (flat_map (dues_of endings) xs) (flat_map (dues_of endings) ys)

-- leases have no more dues in a month than they are
pub no_more_dues : (endings : Endings) (leases : List Lease) (month : ℕ) → length (dues_among endings leases month) ≤ length leases
no_more_dues endings [] month = omega arith
no_more_dues endings (lease ∷ leases) month =
    omega (
      arith,
      at_most_one endings lease month,
      no_more_dues endings leases month,
      ap length (dues_of_two endings (lease ∷ []) leases month),
      length-append (dues_among endings (lease ∷ []) month) (dues_among endings leases month),
    )

pub no_more_kept : {X : Type 0} (p : X → Bool) (xs : List X) → length (filter p xs) ≤ length xs
no_more_kept p xs = omega (arith, length-filter p xs, count_by-le-length p xs)

-- the lease is of a property of the branch
abbrev pub of_branch : FinMap text_cmp Property → List ℕ → Lease → Bool
of_branch properties branch lease = is_property_of branch (get properties lease.terms.property)

of_one : (endings : Endings) (month : ℕ) (lease : Lease) (keeps : Bool)
    → dues_among endings (cond keeps (lease ∷ []) []) month ≡ cond keeps (dues_among endings (lease ∷ []) month) []
of_one endings month lease true = refl
of_one endings month lease false = refl

either : {X : Type 0} (b : Bool) (x : X) → cond b x x ≡ x
either true x = refl
either false x = refl

module _ (endings : Endings) (properties : FinMap text_cmp Property) (month : ℕ) (leases : List Lease) (lease : Lease) (q : List ℕ) where
  abbrev before : List Charge
  before = dues_among endings (filter (of_branch properties q) leases) month

  abbrev after : List Charge
  after = dues_among endings (filter (of_branch properties q) (leases ++ lease ∷ [])) month

  abbrev own : List Charge
  own = dues_among endings (lease ∷ []) month

  -- its own dues come behind those of the leases before it, where it is of the branch
  due_behind : after ≡ before ++ cond (of_branch properties q lease) own []
  due_behind =
      ap (λ ls. dues_among endings ls month) (filter-append (of_branch properties q) leases (lease ∷ []))
      ∙ dues_of_two endings (filter (of_branch properties q) leases) (filter (of_branch properties q) (lease ∷ [])) month
      ∙ ap (λ cs. before ++ cs) (of_one endings month lease (of_branch properties q lease))

  pub due_put : (property : Property) (charge : Charge) → get properties lease.terms.property ≡ Some property → charge ∷ [] ≡ own
      → before ++ cond (is_at (text_cmp property.branch) q) (charge ∷ []) [] ≡ after
  due_put property charge there its =
      ap (λ cs. before ++ cond (is_at (text_cmp property.branch) q) cs []) its
      ∙ ap (λ b. before ++ cond b own []) (sym (ap (is_property_of q) there ∙ texts_ties property.branch q)) ∙ sym due_behind

  -- what is not due, or at no branch, changes nothing
  pub no_due_more : [] ≡ own → before ≡ after
  no_due_more none =
      sym (due_behind ∙ ap (λ cs. before ++ cond (of_branch properties q lease) cs []) (sym none)
      ∙ ap (λ cs. before ++ cs) (either (of_branch properties q lease) []) ∙ append-nil before)

  pub no_branch_more : get properties lease.terms.property ≡ None → before ≡ after
  no_branch_more none = sym (due_behind ∙ ap (λ b. before ++ cond b own []) (ap (is_property_of q) none) ∙ append-nil before)
