-- Rows that are added while a run is open, and the rest of the run, in either order.
use Rattle.std.proofs.Common.{◌≡◌, ◌∙◌, refl, sym, ap, ℕ, not, nat_eq, List, Option, Some, None}
use Rattle.std.specs.FinMap.{FinMap, get, insert}
use Rattle.dh_types.specs.declared.property.Property.{Property}
use Rattle.dh_types.specs.declared.viewing.Viewing.{Viewing}
use Rattle.dh_types.specs.declared.command.ViewingComment.{ViewingComment}
use Rattle.dh_types.specs.declared.lease.Charge.{Charge}
use Rattle.dh_types.specs.declared.run.Part.{Part}
use Rattle.dh_types.specs.declared.fee.PartFee.{PartFee}
use Rattle.dh_types.specs.declared.run.Run.{Run}
use Rattle.dh_model.specs.declared.open_run.OpenRun.{OpenRun}
use Rattle.dh_model.specs.declared.rows.Change.{Change}
use Rattle.dh_model.specs.declared.rows.Change.TheVariants as change
use Rattle.dh_model.specs.Books.{Books, text_cmp, with_rows}
use Rattle.dh_model.specs.Runs.{batches, charge_key, closed_run, part_fee_key, part_key, posted_charges, posted_fees, posted_parts}
use Rattle.dh_model.specs.Kinds.{Kind, Properties, Viewings, key_of, record_of, records_of, with_records}
use Rattle.dh_model.specs.Edits.{Update, edited, updated}
use Rattle.dh_model.specs.Machine.{changed}
use Rattle.dh_model.specs.Rules.{NamesWhatIsThere, Rule}
use Rattle.dh_model.specs.Whole.{completed, open_row, rows_where, whole}
use Rattle.dh_laws.specs.Passing.{FreeChangesPassTheRun}
use Rattle.dh_laws.proofs.VerdictLemmas.Acceptance.{Accepted}
use Rattle.dh_laws.proofs.VerdictLemmas.Cases.{accepted}
use Rattle.dh_laws.proofs.MonthLemmas.Alike.{batches_alike, charges_alike, fees_alike, parts_alike}
use Rattle.dh_laws.proofs.MonthLemmas.Dues.{StandAsBefore, new_property, same_property}
use Rattle.dh_laws.proofs.MonthLemmas.Keep.{properties_alike}

module _ (size : ℕ) (b : Books) where
  -- properties that stand as before leave what the rest of a run adds
  module _ (properties : FinMap text_cmp Property) (stand : StandAsBefore b properties) where
    abbrev after : Books
    after = record b { properties = properties }

    all_charges : (month : ℕ) → posted_charges size after month (batches size after month) ≡ posted_charges size b month (batches size b month)
    all_charges month =
        let alike = properties_alike b properties stand month in
        charges_alike size b after month alike (batches size after month) ∙ ap (posted_charges size b month) (batches_alike size b after month alike)

    all_parts : (month : ℕ) → posted_parts size after month (batches size after month) ≡ posted_parts size b month (batches size b month)
    all_parts month =
        let alike = properties_alike b properties stand month in
        parts_alike size b after month alike (batches size after month) ∙ ap (posted_parts size b month) (batches_alike size b after month alike)

    all_fees : (month : ℕ) → posted_fees size after month (batches size after month) ≡ posted_fees size b month (batches size b month)
    all_fees month =
        let alike = properties_alike b properties stand month in
        fees_alike size b after month alike (batches size after month) refl refl ∙ ap (posted_fees size b month) (batches_alike size b after month alike)

    abbrev with_all : Run → List Charge → List Part → List PartFee → Books
    with_all run charges parts fees = record after {
      charges = with_rows charge_key charges (rows_where (λ charge. not (nat_eq charge.month run.month)) b.charges);
      parts = with_rows part_key parts (rows_where (λ part. not (nat_eq part.month run.month)) b.parts);
      part_fees = with_rows part_fee_key fees (rows_where (λ it. not (nat_eq it.month run.month)) b.part_fees);
      runs = insert b.runs run.month (closed_run run.month run.key charges);
    }

    completed_alike : (found : Option Run) → completed size after found ≡ record (completed size b found) { properties = properties }
    completed_alike None = refl
    completed_alike (Some run) = λ i. with_all run (all_charges run.month i) (all_parts run.month i) (all_fees run.month i)

    properties_pass : whole size after ≡ record (whole size b) { properties = properties }
    properties_pass = completed_alike (open_row b)

  -- where no run is open there is nothing to pass
  on_whole : (f : Books → Books) → ((row : Run) → completed size (f b) (Some row) ≡ f (completed size b (Some row))) → (found : Option Run)
      → completed size (f b) found ≡ f (completed size b found)
  on_whole f passes None = refl
  on_whole f passes (Some row) = passes row

  properties_stay : (found : Option Run) → (completed size b found).properties ≡ b.properties
  properties_stay None = refl
  properties_stay (Some row) = refl

  viewings_stay : (found : Option Run) → (completed size b found).viewings ≡ b.viewings
  viewings_stay None = refl
  viewings_stay (Some row) = refl

  -- a row in the place of an old one, in books that have the same ones
  module _ (kind : Kind) (key : key_of kind) (into : record_of kind → record_of kind) (row : record_of kind)
      (same : records_of kind (whole size b) ≡ records_of kind b) (is : get (records_of kind b) key ≡ Some row) where
    abbrev put : Books → Books
    put w = with_records kind (insert (records_of kind b) key (into row)) w

    put_in_whole : edited (Update kind key into) (whole size b) ≡ put (whole size b)
    put_in_whole =
        ap (updated kind key into (whole size b)) (ap (λ rows. get rows key) same ∙ is)
        ∙ ap (λ rows. with_records kind (insert rows key (into row)) (whole size b)) same

    update_passes : whole size (put b) ≡ put (whole size b) → whole size (edited (Update kind key into) b) ≡ edited (Update kind key into) (whole size b)
    update_passes passes = ap (λ found. whole size (updated kind key into b found)) is ∙ passes ∙ sym put_in_whole

  abbrev Pass : Change → Type 0
  Pass rows = whole size (changed rows b) ≡ changed rows (whole size b)

  property_passes : (key : List ℕ) (into : Property → Property) (row : Property) → get b.properties key ≡ Some row → (into row).branch ≡ row.branch
      → whole size (edited (Update Properties key into) b) ≡ edited (Update Properties key into) (whole size b)
  property_passes key into row is stays =
      update_passes Properties key into row (properties_stay (open_row b)) is
      (properties_pass (insert b.properties key (into row)) (same_property b key (into row) row is stays))

  comment_passes : (it : ViewingComment) (row : Viewing) → get b.viewings (it.client, it.property) ≡ Some row → Pass (change.Comment it)
  comment_passes it row is =
      let into = λ (row : Viewing). let new : Viewing = record row { comment = Some it.comment } in new in
      let key : List ℕ × List ℕ = (it.client, it.property) in
      update_passes Viewings key into row (viewings_stay (open_row b)) is
      (on_whole (λ w. record w { viewings = insert b.viewings key (into row) }) (λ row. refl) (open_row b))

  added_passes : (it : Property) → NamesWhatIsThere b → get b.properties it.number ≡ None → Pass (change.Property it)
  added_passes it names new =
      properties_pass (insert b.properties it.number it) (new_property b it.number it names new)
      ∙ sym (ap (λ rows. record (whole size b) { properties = insert rows it.number it }) (properties_stay (open_row b)))

  -- of an open run
  module _ (run : OpenRun) (names : NamesWhatIsThere b) where
    changes_pass : (rows : Change) → Accepted b (Some run) rows → Pass rows
    changes_pass (change.Property it) a = added_passes it names a.known
    changes_pass (change.Assign it) a = property_passes it.property (λ row. record row { staff = it.staff }) a.row a.is refl
    changes_pass (change.Rent it) a = property_passes it.property (λ row. record row { rent = it.rent }) a.row a.is refl
    changes_pass (change.Comment it) a = comment_passes it a.row a.is
    changes_pass (change.Open it) a = cc
    -- no other that touches what a run reads is accepted
    changes_pass other a = on_whole (changed other) (λ row. cc) (open_row b)

pub free_changes_pass_the_run : (size : ℕ) → FreeChangesPassTheRun size
free_changes_pass_the_run size books run told rows pos in_order free is =
    changes_pass size books run (in_order.rules Rule.References) rows (accepted books (Some run) rows told is)
