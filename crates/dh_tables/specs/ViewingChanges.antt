-- UPDATE viewing SET comment = ?3 WHERE client_no = ?1 AND property_no = ?2
use Rattle.std.specs.Prelude.{◌≡◌, refl, true, [], ◌∷◌, Some, codes}
use Rattle.sqlite_value.specs.declared.value.Value.TheVariants.{Text}
use Rattle.sqlite_value.specs.Order.{Row, column}
use Rattle.sqlite_sql.specs.Term.{col}
use Rattle.sqlite_tied.specs.Compute.{everything}
use Rattle.sqlite.specs.Listing.{understood}
use Rattle.dh_values.specs.Texts.{is_id, is_text}
use Rattle.dh_types.specs.declared.command.ViewingComment.{ViewingComment}
use Rattle.dh_types.specs.declared.version.Version.TheVariants.{First}
use Rattle.dh_ddl.specs.Versions.{of_both}
use Rattle.dh_ddl.specs.ViewingTable.{viewing}
use Rattle.dh_sql.specs.CellTests.{AreCells}
use Rattle.dh_sql.specs.Shape.{stored_in}
use Rattle.dh_sql.proofs.Casting.{cast_rowid, pass_all, pass_each, row_stays}
use Rattle.dh_tables.specs.Amendments.{Amending, IsAmending, Updates}
use Rattle.dh_tables.specs.Cells.{is_text as text_is, optional_passes, pass_both, same_text, tells_both, tells_text}
use Rattle.dh_tables.specs.ViewingTable.{viewing_cells, viewing_columns, viewing_of, viewing_shape}
use Rattle.dh_tables.specs.Commands.{update_text}

abbrev pub comment_amending : Amending ViewingComment
comment_amending = record {
  text = update_text (codes "viewing") (codes "client_no" ∷ codes "property_no" ∷ []) (codes "comment" ∷ []);
  place = 7;
  table = viewing;
  tests = viewing_of.asking.tests;
  project = col 1 0 ∷ col 1 0 ∷ col 1 1 ∷ col 1 2 ∷ col 1 3 ∷ col 0 2 ∷ [];
  given = λ q. Text q.client ∷ Text q.property ∷ Text q.comment ∷ [];
}

pub comment_is : IsAmending First viewing_shape comment_amending (λ q. is_text 200 q.comment ≡ true) (λ q. (q.client, q.property))
    (λ q v. record v { comment = Some q.comment })
unfolding understood everything
comment_is = record {
  means = of_both (Updates comment_amending)
      (record { command = refl; plain = (refl, refl); listed = refl; stored = λ db. refl })
      (record { command = refl; plain = (refl, refl); listed = refl; stored = λ db. refl });
  tree_is = refl;
  finds = λ q r good.
      let cells = (pass_each viewing_cells true (viewing_columns r) good).1 in
      let v = stored_in viewing_shape r in
      tells_both (tells_text v.client q.client refl) (tells_text v.property q.property refl)
      (pass_both (same_text (column r 1) q.client (text_is is_id (column r 1) cells.0))
      (same_text (column r 2) q.property (text_is is_id (column r 2) cells.1.0)));
  keeps_rowid = λ q r. refl;
  turns = λ q r known good own.
      let c = (pass_each viewing_cells true (viewing_columns r) good).1 in
      let new : Row = column r 1 ∷ column r 2 ∷ column r 3 ∷ Text q.comment ∷ [] in
      let cells : AreCells viewing_cells new = (c.0, (c.1.0, (c.1.1.0, (optional_passes (is_text 200) (Some q.comment) known, tt)))) in
      record {
        stays = row_stays viewing_cells viewing (column r 0) new refl (cast_rowid (column r 0) own) cells;
        rowid_is = refl;
        grammar = pass_all viewing_cells true new refl cells;
        record_is = refl;
      };
  keeps_key = λ q x. refl;
}
