-- The texts build our schemas.
use Rattle.std.proofs.Common.{◌≡◌, ◌∙◌, ◌++◌, ap, ℕ, List, [], ◌∷◌, inl, inr, refl, sym, subst, map, take, drop, Ok, Err, Result, OnOk}
use Rattle.sqlite_schema.specs.declared.schema.Schema.{Schema}
use Rattle.sqlite_schema.specs.declared.schema.Table.{Table}
use Rattle.sqlite_catalog.specs.Change.{KeepsRows}
use Rattle.sqlite.specs.State.{State}
use Rattle.dh_ddl.specs.declared.texts.TheConstants.{FIRST, SECOND, FIRST_TO_SECOND}
use Rattle.dh_ddl.specs.Layout.{first, second, no_schema, first_schema, first_tables, later_tables, our_schema}
use Rattle.dh_types.specs.declared.version.Version.{Version}
use Rattle.dh_types.specs.declared.version.Version.TheVariants.{First, Second}
use Rattle.dh_ddl.specs.Versions.{schema_of}
use Rattle.dh_ddl.specs.Meanings.{Build}
use Rattle.dh_ddl.specs.Making.{AreEmpty, HasEmptyTables, HasGrown, Makes}
use Rattle.dh_ddl.proofs.TextMeanings.{meta_is, branch_is, staff_is, owner_is, property_is, client_is, registration_is, viewing_is, inspection_is, lease_is}
use Rattle.dh_ddl.proofs.TextMeanings.{charge_is, receipt_is, run_is, part_is, branch_fee_is, part_fee_is, ending_is}
use Rattle.dh_ddl.proofs.TextMeanings.{property_staff_is, later_property_staff_is, later_property_owner_is, later_property_branch_is, lease_property_is}
use Rattle.dh_ddl.proofs.TextMeanings.{later_lease_property_is, lease_client_is, later_lease_client_is, charge_month_is, receipt_lease_is}
use Rattle.dh_ddl.proofs.TextMeanings.{later_receipt_lease_is, viewing_property_is, later_viewing_property_is}
use Rattle.dh_ddl.proofs.TextMeanings.{property_staff_goes, lease_property_goes, lease_client_goes, charge_month_goes, receipt_lease_goes}
use Rattle.dh_ddl.proofs.TextMeanings.{viewing_property_goes}

-- the texts of a version, and those that make the second of the first
abbrev pub texts_of : Version → List (List ℕ)
texts_of First = map (λ text. text.now) FIRST
texts_of Second = map (λ text. text.now) SECOND

abbrev pub later_texts : List (List ℕ)
later_texts = map (λ text. text.now) FIRST_TO_SECOND

-- their parts: the tables of the first version, the later ones, the indexes for look-ups of each version, and what takes the first ones away
abbrev table_texts : List (List ℕ)
table_texts = take 14 (texts_of First)

abbrev new_texts : List (List ℕ)
new_texts = take 3 (drop 14 (texts_of Second))

abbrev look_texts : List (List ℕ)
look_texts = drop 14 (texts_of First)

abbrev later_look_texts : List (List ℕ)
later_look_texts = drop 17 (texts_of Second)

abbrev drop_texts : List (List ℕ)
drop_texts = take 6 later_texts

from_lease : Build (drop 9 table_texts) (first 9 8) (first 14 12)
from_lease = (_, inl lease_is, (_, inl charge_is, (_, inl receipt_is, (_, inl run_is, (_, inl part_is, refl)))))

from_client : Build (drop 5 table_texts) (first 5 4) (first 14 12)
from_client = (_, inl client_is, (_, inl registration_is, (_, inl viewing_is, (_, inl inspection_is, from_lease))))

tables_build : Build table_texts no_schema (first 14 12)
tables_build = (_, inl meta_is, (_, inl branch_is, (_, inl staff_is, (_, inl owner_is, (_, inl property_is, from_client)))))

looks_build : Build look_texts (first 14 12) first_schema
looks_build = (
  _,
  inr (inl property_staff_is),
  (
    _,
    inr (inl lease_property_is),
    (
      _,
      inr (inl lease_client_is),
      (_, inr (inl charge_month_is), (_, inr (inl receipt_lease_is), (_, inr (inl viewing_property_is), refl))),
    ),
  ),
)

looks_go : Build drop_texts first_schema (first 14 12)
looks_go = (
  _,
  inr (inr viewing_property_goes),
  (
    _,
    inr (inr receipt_lease_goes),
    (
      _,
      inr (inr charge_month_goes),
      (_, inr (inr lease_client_goes), (_, inr (inr lease_property_goes), (_, inr (inr property_staff_goes), refl))),
    ),
  ),
)

new_tables_build : Build new_texts (first 14 12) (second 17 14)
new_tables_build = (_, inl branch_fee_is, (_, inl part_fee_is, (_, inl ending_is, refl)))

later_looks_build : Build later_look_texts (second 17 14) our_schema
later_looks_build = (
  _,
  inr (inl later_property_staff_is),
  (
    _,
    inr (inl later_property_owner_is),
    (
      _,
      inr (inl later_property_branch_is),
      (
        _,
        inr (inl later_lease_property_is),
        (_, inr (inl later_lease_client_is), (_, inr (inl later_receipt_lease_is), (_, inr (inl later_viewing_property_is), refl))),
      ),
    ),
  ),
)

-- what builds a schema, and what builds on it
builds_on : (front more : List (List ℕ)) (before middle after : Schema) → Build front before middle → Build more middle after
    → Build (front ++ more) before after
builds_on [] more before middle after is on = subst (λ s. Build more s after) (sym is) on
builds_on (text ∷ front) more before middle after is on = (is.0, is.1, builds_on front more is.0 middle after is.2 on)

-- the later tables, and the indexes behind them
behind_build : Build (new_texts ++ later_look_texts) (first 14 12) our_schema
behind_build = builds_on new_texts later_look_texts (first 14 12) (second 17 14) our_schema new_tables_build later_looks_build

build_of : (version : Version) → Build (texts_of version) no_schema (schema_of version)
build_of First = builds_on table_texts look_texts no_schema (first 14 12) first_schema tables_build looks_build
build_of Second = builds_on table_texts (new_texts ++ later_look_texts) no_schema (first 14 12) our_schema tables_build behind_build

later_build : Build later_texts first_schema our_schema
later_build = builds_on drop_texts (new_texts ++ later_look_texts) first_schema (first 14 12) our_schema looks_go behind_build

-- so they have made it, where there was no table
pub made_all : {E : Type 0} (version : Version) (r : Result (Unit {0}) E) (old new : State) → old.now.schema ≡ no_schema
    → OnOk r (Makes (texts_of version) old new) → OnOk r (HasEmptyTables version new)
made_all version (Err e) old new has makes = tt
made_all version (Ok done) old new has makes =
    let is = schema_of version in
    let it = makes is (subst (λ s. Build (texts_of version) s is) (sym has) (build_of version)) in
    let all : is.tables ≡ new.now.schema.tables = sym (ap (λ (s : Schema). s.tables) it.0.schema_is) in
    let made : is.tables ≡ it.1.made = all ∙ it.1.behind ∙ ap (λ (s : Schema). s.tables ++ it.1.made) has in
    (it.0, subst (λ tables. AreEmpty tables new.now.trees) (sym made) it.1.empty)

-- and the later texts, where the first version stood
pub made_later : {E : Type 0} (r : Result (Unit {0}) E) (old new : State) → old.now.schema ≡ first_schema → OnOk r (Makes later_texts old new)
    → OnOk r (HasGrown old new)
made_later (Err e) old new has makes = tt
made_later (Ok done) old new has makes =
    let it = makes our_schema (subst (λ s. Build later_texts s our_schema) (sym has) later_build) in
    let before : old.now.schema.tables ≡ first_tables = ap (λ (s : Schema). s.tables) has in
    let all : first_tables ++ later_tables ≡ new.now.schema.tables = sym (ap (λ (s : Schema). s.tables) it.0.schema_is) in
    let both : first_tables ++ later_tables ≡ first_tables ++ it.1.made = all ∙ it.1.behind ∙ ap (λ (front : List Table). front ++ it.1.made) before in
    let made : later_tables ≡ it.1.made = ap (drop 14) both in
    record {
      writing = it.0;
      kept = subst (λ tables. KeepsRows tables old.now.trees new.now.trees) before it.1.rows;
      empty = subst (λ tables. AreEmpty tables new.now.trees) (sym made) it.1.empty;
    }
