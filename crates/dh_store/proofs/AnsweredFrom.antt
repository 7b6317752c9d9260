-- The charges of other months have no say in an owner's statement, and the properties of other branches none in what a branch is owed.
use Rattle.std.proofs.Common.{◌≡◌, ◌∙◌, refl, sym, ap, Bool, true, false, cond, if◌then◌else◌, ◌&&◌, ℕ, nat_eq, pos, int_lt, map, List, [], ◌∷◌}
use Rattle.std.proofs.Common.{Option, Some, None}
use Rattle.std.specs.List.{cons_option, filter, filter_map, list_any}
use Rattle.std.specs.FinMap.{contains_key, get, values}
use Rattle.dh_types.specs.declared.lease.Lease.{Lease}
use Rattle.dh_types.specs.declared.lease.Charge.{Charge}
use Rattle.dh_types.specs.declared.owner.Owner.{Owner}
use Rattle.dh_types.specs.declared.run.Run.{Run}
use Rattle.dh_types.specs.declared.question.OwnerMonth.{OwnerMonth}
use Rattle.dh_types.specs.declared.question.Question.{Question}
use Rattle.dh_types.specs.declared.question.Question.TheVariants as asked
use Rattle.dh_types.specs.declared.reply.Refusal.TheVariants as refusal
use Rattle.dh_types.specs.declared.field.TheConstants.{ASKED_ABOUT}
use Rattle.dh_types.specs.declared.property.Property.{Property}
use Rattle.dh_types.specs.declared.answer.Debt.{Debt}
use Rattle.dh_types.specs.Reports.{BranchArrears, NoReport}
use Rattle.dh_model.specs.declared.open_run.OpenRun.{OpenRun}
use Rattle.dh_model.specs.Answers.{answer_of, arrears, balance, debt, owed, line_of_lease, owner_charges, owner_line, owner_lines}
use Rattle.dh_model.specs.Answers.{owner_report, is_put_off, report, unless_open}
use Rattle.dh_model.specs.Books.{Books}
use Rattle.dh_model.specs.Checks.{is_same_text}
use Rattle.dh_model.specs.Runs.{is_property_of, leases_of_branch}
use Rattle.dh_model.proofs.KeyOrders.{nats_tie, nats_total, text_ties, text_total}
use Rattle.dh_laws.specs.AskedAbout.{asked_about, leases_of_owner}
use Rattle.dh_model.proofs.MapRows.{kept_if}
use Rattle.dh_laws.proofs.MapMerges.{get-rows_where}
use Rattle.dh_laws.proofs.FactLemmas.Narrowed.{values_where}
use Rattle.dh_store.specs.AnsweredFrom.{answered_from}

-- what comes to nothing may be passed over
module _ {X Y : Type 0} (f : X → Option Y) (p m : X → Bool) (none : (x : X) → m x ≡ false → f x ≡ None) where
  passed_if : (b c : Bool) (x : X) (fewer all : List X) → m x ≡ c → filter_map f fewer ≡ filter_map f all
      → filter_map f (cond (b && c) (x ∷ fewer) fewer) ≡ filter_map f (cond b (x ∷ all) all)
  passed_if true true x fewer all e rest = ap (cons_option (f x)) rest
  passed_if true false x fewer all e rest = rest ∙ ap (λ y. cons_option y (filter_map f all)) (sym (none x e))
  passed_if false c x fewer all e rest = rest

  passed_over : (xs : List X) → filter_map f (filter (λ x. p x && m x) xs) ≡ filter_map f (filter p xs)
  passed_over [] = refl
  passed_over (x ∷ xs) = passed_if (p x) (m x) x (filter (λ x. p x && m x) xs) (filter p xs) refl (passed_over xs)

module _ (books : Books) (it : OwnerMonth) where
  abbrev fewer : Books
  fewer = answered_from books (asked.Owner it)

  abbrev all : Books
  all = asked_about books (asked.Owner it)

  abbrev is_of_lease : Charge → Bool
  is_of_lease charge = list_any (λ (lease : Lease). nat_eq charge.lease lease.terms.number) (leases_of_owner books it.owner)

  abbrev is_of_month : Charge → Bool
  is_of_month charge = nat_eq charge.month it.month

  -- a charge of another month has no line
  no_line : (charge : Charge) → is_of_month charge ≡ false → owner_line all it charge ≡ None
  no_line charge e = ap (λ b. if b then line_of_lease all it.owner charge (get all.leases charge.lease) else None) e

  lines_alike : owner_lines fewer it ≡ owner_lines all it
  lines_alike =
      ap (filter_map (owner_line all it)) (values_where nats_total nats_tie (λ charge. is_of_lease charge && is_of_month charge) books.charges)
      ∙ passed_over (owner_line all it) is_of_lease is_of_month no_line (values books.charges)
      ∙ sym (ap (filter_map (owner_line all it)) (values_where nats_total nats_tie is_of_lease books.charges))

  owner_alike : (owner : Option Owner) (run : Option Run) → owner_report fewer it owner run ≡ owner_report all it owner run
  owner_alike None run = refl
  owner_alike (Some owner) None = refl
  owner_alike (Some owner) (Some run) = ap (λ lines. cond run.is_closed (owner_charges lines) (NoReport refusal.NoRun)) lines_alike

module _ (books : Books) (branch : List ℕ) where
  abbrev its : Books
  its = answered_from books (asked.Arrears branch)

  abbrev whole : Books
  whole = asked_about books (asked.Arrears branch)

  -- another branch's property is that of no lease here, whether it is there or not
  kept_by : (b : Bool) (property : Property) → is_property_of branch (Some property) ≡ b → is_property_of branch (cond b (Some property) None) ≡ b
  kept_by true property e = e
  kept_by false property e = refl

  kept : (found : Option Property) → is_property_of branch (kept_if (λ property. is_same_text property.branch branch) found) ≡ is_property_of branch found
  kept None = refl
  kept (Some property) = kept_by (is_property_of branch (Some property)) property refl

  belongs : (number : List ℕ) → is_property_of branch (get its.properties number) ≡ is_property_of branch (get whole.properties number)
  belongs number =
      ap (is_property_of branch) (get-rows_where text_total text_ties (λ (property : Property). is_same_text property.branch branch) books.properties number)
      ∙ kept (get books.properties number)

  leases_alike : leases_of_branch its branch ≡ leases_of_branch whole branch
  leases_alike = ap (λ (f : Lease → Bool). filter f (values whole.leases)) (λ i lease. belongs lease.terms.property i)

  abbrev owing : List Lease → List Debt
  owing leases = map (debt whole) (filter (λ lease. int_lt (pos 0) (balance whole lease.terms.number)) leases)

  arrears_alike : arrears its branch ≡ arrears whole branch
  arrears_alike = ap (λ leases. if contains_key whole.branches branch then BranchArrears (owing leases) (owed whole (owing leases))
      else NoReport (refusal.Unknown ASKED_ABOUT)) leases_alike

answers_alike : (books : Books) (question : Question) → answer_of (answered_from books question) question ≡ answer_of (asked_about books question) question
answers_alike books (asked.Arrears branch) = arrears_alike books branch
answers_alike books (asked.Owner it) = owner_alike books it (get (fewer books it).owners it.owner) (get (fewer books it).runs it.month)
answers_alike books _ = refl

-- the rows that an answer is made of answer as those that the question is about
pub answered_alike : (books : Books) (run : Option OpenRun) (question : Question)
    → report (record { books = answered_from books question; open_run = run }) question
    ≡ report (record { books = asked_about books question; open_run = run }) question
answered_alike books run question = ap (λ it. if is_put_off question then unless_open run it else it) (answers_alike books question)
