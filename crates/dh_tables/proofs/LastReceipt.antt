-- The row of the greatest number, as the last receipt.
use Rattle.std.proofs.Common.{◌≡◌, ◌∙◌, ◌≤◌, pos, inl, inr, refl, sym, ap, subst}
use Rattle.std.proofs.Common.{ℕ, List, [], ◌∷◌, ◌++◌, codes, map, cond, Bool, true, false}
use Rattle.std.proofs.Common.{Option, Some, None, Result, Ok, Err, IfOk, is_eq, nat_cmp, arith}
use Rattle.std.specs.List.{IsDistinct}
use Rattle.std.specs.Ordering.{eq_by_cmp}
use Rattle.std.specs.FinMap.{FinMap, empty, find, get, get-empty, get-from_entries, from_entries}
use Rattle.std.proofs.lemmas.Bool.Decides.{nat_tests}
use Rattle.std.proofs.lemmas.Cmp.{tied_itself}
use Rattle.sqlite_value.specs.declared.value.Value.TheVariants.{Int}
use Rattle.sqlite_value.specs.Order.{Row, column}
use Rattle.sqlite_sql.specs.Term.{col}
use Rattle.sqlite_tied.specs.Compute.{everything}
use Rattle.sqlite_trees.specs.Tree.{Trees}
use Rattle.sqlite_rules.specs.Lists.{Has}
use Rattle.sqlite.specs.Listing.{understood}
use Rattle.dh_values.specs.declared.limits.TheConstants.{MOST_NUMBER}
use Rattle.dh_types.specs.declared.lease.Receipt.{Receipt}
use Rattle.dh_model.proofs.Among.{in_map}
use Rattle.dh_model.proofs.KeyOrders.{nat_ties, nat_total}
use Rattle.dh_model.proofs.MapRows.{found_entry, get_new}
use Rattle.dh_laws.specs.Looks.{IsLast}
use Rattle.sqlite_schema.specs.declared.schema.Schema.{Schema}
use Rattle.dh_types.specs.declared.version.Version.TheVariants.{First}
use Rattle.dh_ddl.specs.Versions.{HasSince, of_both}
use Rattle.dh_sql.specs.Shape.{IsGreatest, IsKept, IsStored, entry_in, number_at, rows_in, rows_of, stored_in}
use Rattle.dh_sql.specs.Texts.{IsLastText}
use Rattle.dh_sql.proofs.Casting.{pass_each}
use Rattle.dh_sql.proofs.Lists.{has_all, has_among, none_with}
use Rattle.dh_tables.specs.Cells.{is_number}
use Rattle.dh_tables.specs.Listing.{select_rows_text}
use Rattle.dh_tables.specs.Questions.{only_record}
use Rattle.dh_tables.specs.ReceiptTable.{receipt_cells, receipt_columns, receipt_named, receipt_shape}

abbrev pub last_text : List ℕ
last_text = select_rows_text receipt_named ++ codes " ORDER BY receipt_no DESC LIMIT 1"

pub last_is : (s : Schema) → HasSince First s → IsLastText last_text s 20 receipt_named.shown (col 1 0) receipt_named.names
unfolding understood everything
last_is = of_both (λ s. IsLastText last_text s 20 receipt_named.shown (col 1 0) receipt_named.names)
    (record { command = refl; unlisted = refl; plain = (refl, refl); stored = λ db. refl })
    (record { command = refl; unlisted = refl; plain = (refl, refl); stored = λ db. refl })

-- the rowid is the number
pub numbered : (r : Row) → IsStored receipt_shape r → column r 0 ≡ Int (pos (number_at receipt_shape r))
numbered r good = is_number 1 MOST_NUMBER (column r 0) (pass_each receipt_cells true (receipt_columns r) good).1.0

beside : (a b : ℕ) → eq_by_cmp nat_cmp a b ≡ false → eq_by_cmp nat_cmp b a ≡ false
beside a b h = grind (arith, nat_tests)

itself : (a : ℕ) → eq_by_cmp nat_cmp a a ≡ true
itself a = ap is_eq (tied_itself nat_total a)

abbrev number : Row → ℕ
number = number_at receipt_shape

found_row : (rows : List Row) (top : Row) → IsDistinct (eq_by_cmp nat_cmp) (map number rows) → Has rows top
    → find nat_cmp (number top) (map (entry_in receipt_shape) rows) ≡ Some (stored_in receipt_shape top)
unfolding IsDistinct
found_row [] top once has = absurd has
found_row (r ∷ rows) top once (inl same) =
    let rest = find nat_cmp (number top) (map (entry_in receipt_shape) rows) in
    ap (λ b. cond b (Some (stored_in receipt_shape r)) rest) (ap (λ x. eq_by_cmp nat_cmp (number top) (number x)) (sym same) ∙ itself (number top))
    ∙ ap (λ x. Some (stored_in receipt_shape x)) (sym same)
found_row (r ∷ rows) top once (inr has) =
    let rest = find nat_cmp (number top) (map (entry_in receipt_shape) rows) in
    ap (λ b. cond b (Some (stored_in receipt_shape r)) rest)
    (beside (number r) (number top) (none_with (eq_by_cmp nat_cmp) itself number (number r) rows top once.0 has))
    ∙ found_row rows top once.1 has

nothing : (x : Receipt) → None ≡ Some x → ⊥
nothing x h = cc

same_record : (a b : Bool) (x y : Receipt) → cond a (Some y) None ≡ Some x → y ≡ x
same_record true b x y h = cc
same_record false b x y h = cc

pub last_of : (trees : Trees) → IsKept receipt_shape nat_cmp trees → (rows : List Row) → IsGreatest receipt_shape (trees 20) rows
    → (found : Option Receipt) → rows_of receipt_shape {R = nat_cmp} rows ≡ only_record receipt_shape found → IsLast (rows_in receipt_shape trees) found
last_of trees kept [] none None is = λ n.
    ap (λ all. get (from_entries {R = nat_cmp} (map (entry_in receipt_shape) all)) n) none ∙ get-from_entries nat_total [] n
last_of trees kept [] none (Some x) is =
    absurd (nothing x (sym (get-from_entries nat_total [] x.number) ∙ ap (λ (m : FinMap nat_cmp Receipt). get m x.number) is
    ∙ get_new nat_total nat_ties empty x.number x))
last_of trees kept (row ∷ []) top None is =
    let r = receipt_shape.row_in row in
    let here : get (rows_of receipt_shape {R = nat_cmp} (row ∷ [])) r.number ≡ Some r =
    get-from_entries nat_total ((r.number, r) ∷ []) r.number ∙ ap (λ b. cond b (Some r) None) (itself r.number) in
    absurd (nothing r (sym (get-empty nat_cmp r.number) ∙ sym (ap (λ (m : FinMap nat_cmp Receipt). get m r.number) is) ∙ here))
last_of trees kept (row ∷ []) top (Some x) is =
    let all = trees 20 in
    let r = receipt_shape.row_in row in
    let got : cond (eq_by_cmp nat_cmp x.number r.number) (Some r) None ≡ Some x =
    sym (get-from_entries nat_total ((r.number, r) ∷ []) x.number) ∙ ap (λ (m : FinMap nat_cmp Receipt). get m x.number) is
    ∙ get_new nat_total nat_ties empty x.number x in
    let its : stored_in receipt_shape top.0 ≡ x = ap receipt_shape.row_in (sym top.2) ∙ same_record (eq_by_cmp nat_cmp x.number r.number) true x r got in
    let there : get (rows_in receipt_shape {R = nat_cmp} trees) (number top.0) ≡ Some (stored_in receipt_shape top.0) =
    get-from_entries nat_total (map (entry_in receipt_shape) all) (number top.0) ∙ found_row all top.0 kept.keys top.1 in (
      subst (λ (y : Receipt). get (rows_in receipt_shape {R = nat_cmp} trees) y.number ≡ Some y) its there,
      λ n y at.
          let among = found_entry nat_total nat_ties (map (entry_in receipt_shape) all) n y
          (sym (get-from_entries nat_total (map (entry_in receipt_shape) all) n) ∙ at) in
          let of = in_map (entry_in receipt_shape) all (n, y) among in
          let low = has_all (λ r. number r ≤ number top.0) all of.0 top.3 (has_among all of.0 of.1) in
          let from : n ≡ number of.0 = ap (λ (e : ℕ × Receipt). e.0) of.2 in
          let to : number top.0 ≡ x.number = ap (λ (y : Receipt). y.number) its in
          omega (arith, low, from, to),
    )
last_of trees kept (row ∷ more ∷ rows) top found is = absurd top

pub last_ok : {E : Type 0} (r : Result (Option Receipt) E) (trees : Trees) → IsKept receipt_shape nat_cmp trees → (rows : List Row)
    → IsGreatest receipt_shape (trees 20) rows → IfOk r (λ found. rows_of receipt_shape {R = nat_cmp} rows ≡ only_record receipt_shape found)
    → IfOk r (IsLast (rows_in receipt_shape trees))
last_ok (Err e) trees kept rows top h = tt
last_ok (Ok found) trees kept rows top h = last_of trees kept rows top found h
