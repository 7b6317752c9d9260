-- Schemas that compare as the same are one.
use Rattle.std.proofs.Common.{◌≡◌, ◌∙◌, ◌&&◌, refl, sym, ap, cond, ℕ, Bool, true, false, nat_eq, List, [], ◌∷◌, Some, None}
use Rattle.std.specs.List.{AllByRecursion, fold}
use Rattle.std.specs.Cmp.Lexicographic.{pointwise}
use Rattle.std.proofs.lemmas.Bool.{and_parts}
use Rattle.std.proofs.lemmas.Bool.Decides.{nat_tests}
use Rattle.std.proofs.Common.{arith}
use Rattle.sqlite_value.specs.declared.value.Value.TheVariants.{Null, Int, Real, Text, Blob}
use Rattle.sqlite_value.specs.declared.keys.Collation.TheVariants.{Binary, NoCase, RTrim}
use Rattle.sqlite_schema.specs.declared.schema.Kind.{Kind}
use Rattle.sqlite_schema.specs.declared.schema.Kind.TheVariants as kind
use Rattle.sqlite_schema.specs.declared.schema.Action.TheVariants.{NoAction, Restrict, Cascade, SetNull, SetDefault}
use Rattle.sqlite_schema.specs.declared.schema.Schema.{Schema}
use Rattle.sqlite_schema.specs.Rules.{kind_code}
use Rattle.dh_ddl.specs.Versions.{IsOurs, of_both}
use Rattle.dh_ddl.specs.SchemaEquality.{are_binary, are_empty, are_idle, are_null, is_flag, is_place}
use Rattle.dh_ddl.specs.SchemaEquality.{is_same_column, is_same_index, is_same_order, is_same_reference, is_same_schema, is_same_table}

abbrev Tells : {X : Type 0} → (X → X → Bool) → Type 0
Tells {X} same = (a b : X) → same a b ≡ true → a ≡ b

each_from : (b : Bool) (bs : List Bool) → fold (λ x y. x && y) b bs ≡ true → (b ≡ true) × AllByRecursion (λ x. x ≡ true) bs
each_from b [] h = (h, tt)
each_from b (c ∷ bs) h = let later = each_from (b && c) bs h in let parts = and_parts b c later.0 in (parts.0, (parts.1, later.1))

-- each of the tests passes
each : (bs : List Bool) → fold (λ x y. x && y) true bs ≡ true → AllByRecursion (λ x. x ≡ true) bs
each bs h = (each_from true bs h).1

lists : {X : Type 0} (same : X → X → Bool) → Tells same → Tells (pointwise same)
lists same tells [] [] h = refl
lists same tells [] (y ∷ ys) h = cc
lists same tells (x ∷ xs) [] h = cc
lists same tells (x ∷ xs) (y ∷ ys) h =
    let parts = and_parts (same x y) (pointwise same xs ys) h in
    let first = tells x y parts.0 in
    λ i. first i ∷ lists same tells xs ys parts.1 i

numbers : Tells nat_eq
numbers m n h = grind (arith, nat_tests)

texts : Tells (pointwise nat_eq)
texts = lists nat_eq numbers

empties : {X : Type 0} → Tells (are_empty {X = X} {Y = X})
empties [] [] h = refl
empties [] (y ∷ ys) h = cc
empties (x ∷ xs) ys h = cc

flags : Tells is_flag
flags true true h = refl
flags true false h = cc
flags false true h = cc
flags false false h = refl

places : Tells is_place
places None None h = refl
places None (Some b) h = cc
places (Some a) None h = cc
places (Some a) (Some b) h = ap (λ n. Some n) (numbers a b h)

nulls : Tells are_null
nulls Null Null h = refl
nulls Null (Int n) h = cc
nulls Null (Real x) h = cc
nulls Null (Text t) h = cc
nulls Null (Blob t) h = cc
nulls (Int n) b h = cc
nulls (Real x) b h = cc
nulls (Text t) b h = cc
nulls (Blob t) b h = cc

collations : Tells are_binary
collations Binary Binary h = refl
collations Binary NoCase h = cc
collations Binary RTrim h = cc
collations NoCase b h = cc
collations RTrim b h = cc

actions : Tells are_idle
actions NoAction NoAction h = refl
actions NoAction Restrict h = cc
actions NoAction Cascade h = cc
actions NoAction SetNull h = cc
actions NoAction SetDefault h = cc
actions Restrict b h = cc
actions Cascade b h = cc
actions SetNull b h = cc
actions SetDefault b h = cc

abbrev at_code : ℕ → Kind
at_code n = cond (nat_eq n 1) kind.Integer (cond (nat_eq n 2) kind.Real (cond (nat_eq n 3) kind.Text (cond (nat_eq n 4) kind.Blob kind.Any)))

code_back : (k : Kind) → at_code (kind_code k) ≡ k
code_back kind.Integer = refl
code_back kind.Real = refl
code_back kind.Text = refl
code_back kind.Blob = refl
code_back kind.Any = refl

kinds : Tells (λ a b. nat_eq (kind_code a) (kind_code b))
kinds a b h = sym (code_back a) ∙ ap at_code (numbers (kind_code a) (kind_code b) h) ∙ code_back b

orders : Tells is_same_order
orders a b h = λ i. record { digits = numbers a.digits b.digits h i }

columns : Tells is_same_column
columns a b h =
    let e = each (pointwise nat_eq a.name b.name ∷ nat_eq (kind_code a.kind) (kind_code b.kind)
    ∷ is_flag a.is_strict b.is_strict ∷ is_flag a.not_null b.not_null ∷ are_null a.default b.default ∷ are_binary a.collation b.collation ∷ []) h in
    λ i. record {
      name = texts a.name b.name e.0 i;
      kind = kinds a.kind b.kind e.1.0 i;
      is_strict = flags a.is_strict b.is_strict e.1.1.0 i;
      not_null = flags a.not_null b.not_null e.1.1.1.0 i;
      default = nulls a.default b.default e.1.1.1.1.0 i;
      collation = collations a.collation b.collation e.1.1.1.1.1.0 i;
    }

references : Tells is_same_reference
references a b h =
    let e = each (pointwise nat_eq a.columns b.columns ∷ pointwise nat_eq a.parent b.parent
    ∷ are_empty a.parent_columns b.parent_columns ∷ are_idle a.on_delete b.on_delete
    ∷ are_idle a.on_update b.on_update ∷ is_flag a.is_deferred b.is_deferred ∷ []) h in
    λ i. record {
      columns = texts a.columns b.columns e.0 i;
      parent = texts a.parent b.parent e.1.0 i;
      parent_columns = empties a.parent_columns b.parent_columns e.1.1.0 i;
      on_delete = actions a.on_delete b.on_delete e.1.1.1.0 i;
      on_update = actions a.on_update b.on_update e.1.1.1.1.0 i;
      is_deferred = flags a.is_deferred b.is_deferred e.1.1.1.1.1.0 i;
    }

tables : Tells is_same_table
tables a b h =
    let e = each (pointwise nat_eq a.name b.name ∷ nat_eq a.tree b.tree ∷ pointwise is_same_column a.columns b.columns ∷ is_place a.key b.key
    ∷ pointwise nat_eq a.primary b.primary ∷ pointwise (pointwise nat_eq) a.uniques b.uniques ∷ pointwise is_same_order a.orders b.orders
    ∷ are_empty a.checks b.checks ∷ pointwise is_same_reference a.references b.references ∷ are_empty a.computed b.computed
    ∷ are_empty a.stamps.places b.stamps.places ∷ are_empty a.stamps.terms b.stamps.terms ∷ are_empty a.stamps.formats b.stamps.formats
    ∷ is_flag a.is_counted b.is_counted ∷ []) h in
    λ i. record {
      name = texts a.name b.name e.0 i;
      tree = numbers a.tree b.tree e.1.0 i;
      columns = lists is_same_column columns a.columns b.columns e.1.1.0 i;
      key = places a.key b.key e.1.1.1.0 i;
      primary = texts a.primary b.primary e.1.1.1.1.0 i;
      uniques = lists (pointwise nat_eq) texts a.uniques b.uniques e.1.1.1.1.1.0 i;
      orders = lists is_same_order orders a.orders b.orders e.1.1.1.1.1.1.0 i;
      checks = empties a.checks b.checks e.1.1.1.1.1.1.1.0 i;
      references = lists is_same_reference references a.references b.references e.1.1.1.1.1.1.1.1.0 i;
      computed = empties a.computed b.computed e.1.1.1.1.1.1.1.1.1.0 i;
      stamps = record {
        places = empties a.stamps.places b.stamps.places e.1.1.1.1.1.1.1.1.1.1.0 i;
        terms = empties a.stamps.terms b.stamps.terms e.1.1.1.1.1.1.1.1.1.1.1.0 i;
        formats = empties a.stamps.formats b.stamps.formats e.1.1.1.1.1.1.1.1.1.1.1.1.0 i;
      };
      is_counted = flags a.is_counted b.is_counted e.1.1.1.1.1.1.1.1.1.1.1.1.1.0 i;
    }

indexes : Tells is_same_index
indexes a b h =
    let e = each (pointwise nat_eq a.name b.name ∷ nat_eq a.tree b.tree ∷ nat_eq a.table b.table
    ∷ pointwise nat_eq a.columns b.columns ∷ is_same_order a.order b.order ∷ is_flag a.is_unique b.is_unique ∷ []) h in
    λ i. record {
      name = texts a.name b.name e.0 i;
      tree = numbers a.tree b.tree e.1.0 i;
      table = numbers a.table b.table e.1.1.0 i;
      columns = texts a.columns b.columns e.1.1.1.0 i;
      order = orders a.order b.order e.1.1.1.1.0 i;
      is_unique = flags a.is_unique b.is_unique e.1.1.1.1.1.0 i;
    }

pub schemas : (a b : Schema) → is_same_schema a b ≡ true → a ≡ b
schemas a b h =
    let e = each (pointwise is_same_table a.tables b.tables ∷ pointwise is_same_index a.indexes b.indexes ∷ are_empty a.views b.views ∷ []) h in
    λ i. record {
      tables = lists is_same_table tables a.tables b.tables e.0 i;
      indexes = lists is_same_index indexes a.indexes b.indexes e.1.0 i;
      views = empties a.views b.views e.1.1.0 i;
    }

-- one of ours is the same as itself
itself : (ours : Schema) → IsOurs ours → is_same_schema ours ours ≡ true
itself = of_both (λ s. is_same_schema s s ≡ true) refl refl

-- exactly one of ours compares as the same with it
pub tells_ours : (schema ours : Schema) → IsOurs ours → (is_same_schema schema ours ≡ true → schema ≡ ours)
    × (schema ≡ ours → is_same_schema schema ours ≡ true)
tells_ours schema ours is = (schemas schema ours, λ same. ap (λ s. is_same_schema s ours) same ∙ itself ours is)
