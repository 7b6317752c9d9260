-- Tables that a history left are refused by nobody.
use Rattle.std.proofs.Common.{◌≡◌, ◌∙◌, inl, inr, sym, ap, List, [], ◌∷◌, ◌++◌, Option, Some, None, pos}
use Rattle.sqlite.specs.Store.{Ghosts}
use Rattle.sqlite.specs.Held.{Held, state}
use Rattle.sqlite_trees.specs.Tree.{Trees}
use Rattle.dh_types.specs.declared.reply.Refusal.{Refusal}
use Rattle.dh_types.specs.declared.reply.Refusal.TheVariants as refusal
use Rattle.dh_types.specs.declared.version.Version.{Version}
use Rattle.dh_model.specs.Books as machine
use Rattle.dh_model.specs.Runs.{batch_size}
use Rattle.dh_laws.specs.Events.{Event}
use Rattle.dh_laws.specs.StateTables.{as_tables}
use Rattle.dh_rows.specs.Cells.{version_number}
use Rattle.dh_rows.specs.Months.{Months}
use Rattle.dh_tables.specs.MetaTable.{meta_rows}
use Rattle.dh_schema.specs.Store.{tables}
use Rattle.dh_schema.specs.Tables.{IsSound, version_of_tables}
use Rattle.dh_schema.specs.Version.{only_version}
use Rattle.dh_schema.proofs.Changing.{told}
use Rattle.dh_schema.proofs.Keyed.{order_has_values}
use Rattle.dh_runs.specs.Taking.{BreaksRuleZero, GivesVersion, IsRefusedFor}
use Rattle.dh_lives.specs.Histories.{IsHistory, IsSoundIn, Moment, event_of}
use Rattle.dh_lives.specs.HistoryLaws.{NoneIsRefused}
use Rattle.dh_lives.proofs.Following.{Comes, found_after}
use Rattle.dh_laws.proofs.InvariantLemmas.Versions.{the_version_stays}

-- the number that meta has is that of the version that it gives
pub number_given : (trees : Trees) → IsSound trees → only_version (meta_rows trees) ≡ Some (pos (version_number (version_of_tables trees)))
number_given trees sound =
    let order = sound.in_order in
    ap only_version order.meta.rows_are
    ∙ ap (λ (m : Months). Some (pos (version_number m.version))) (sym (told order.months trees order.meta))

-- sound tables of the same version give the same number
same_number : (version : Version) (trees others : Trees) → IsSound trees → IsSound others → version_of_tables others ≡ version_of_tables trees
    → GivesVersion version trees → GivesVersion version others
same_number version trees others sound later same given =
    number_given others later ∙ ap (λ (v : Version). Some (pos (version_number v))) same ∙ sym (number_given trees sound) ∙ given

module _ (version : Version) where
  keeps_rule_zero : (trees : Trees) → IsSound trees → GivesVersion version trees → BreaksRuleZero version trees → ⊥
  keeps_rule_zero trees sound given (inl none) = let same : Some (pos (version_number version)) ≡ None = sym given ∙ none in cc
  keeps_rule_zero trees sound given (inr it) = it.1 (order_has_values trees sound.in_order)

  pub sound_is_taken : (trees : Trees) (why : Refusal) → IsSound trees → GivesVersion version trees → IsRefusedFor version trees why → ⊥
  sound_is_taken trees (refusal.Version found) sound given it =
      let same : Some found ≡ Some (pos (version_number version)) = sym it.0 ∙ given in
      it.1 (cc)
  sound_is_taken trees (refusal.Damaged rule) sound given (inl zero) = keeps_rule_zero trees sound given zero.1
  sound_is_taken trees (refusal.Damaged rule) sound given (inr least) = least.2.breaks (sound.rules least.2.broken)
  sound_is_taken trees _ sound given it = it

-- what came of a call leaves the version
pub comes_so : (event : Option Event) (before after : machine.State) → Comes event before after → after.books.version ≡ before.books.version
comes_so None before after same = ap (λ (s : machine.State). s.books.version) same
comes_so (Some event) before after it = the_version_stays batch_size event (as_tables before) (as_tables after) it

module _ {S : Type 0} (g : Ghosts S) (version : Version) where
  -- so do all calls of a history
  last_given : (first : Held S) (history : List (Moment S)) (last : Moment S) → IsSoundIn g first → GivesVersion version (state g first).now.trees
      → IsHistory g first (history ++ last ∷ []) → IsSoundIn g last.found × GivesVersion version (state g last.found).now.trees
  last_given first [] last sound given so =
      let here = found_after g first last sound so.0 in (
        here.0,
        same_number version (state g first).now.trees (state g last.found).now.trees sound here.0
            (comes_so (event_of last.call) (tables (state g first)) (tables (state g last.found)) here.1) given,
      )
  last_given first (it ∷ later) last sound given so =
      let here = found_after g first it sound so.0 in
      last_given it.found later last here.0 (same_number version (state g first).now.trees (state g it.found).now.trees sound here.0
      (comes_so (event_of it.call) (tables (state g first)) (tables (state g it.found)) here.1) given) so.1

pub none_is_refused : {S : Type 0} (g : Ghosts S) → NoneIsRefused g
none_is_refused g version first history last why sound given so =
    let it = last_given g version first history last sound given so in
    sound_is_taken version (state g last.found).now.trees why it.0 it.1
