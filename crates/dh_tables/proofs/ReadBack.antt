-- Records that were put into a table are read back as themselves.
use Rattle.std.proofs.Common.{◌≡◌, ◌∙◌, Bool, true, List, [], ◌∷◌}
use Rattle.std.specs.List.{AllByRecursion}
use Rattle.sqlite_value.specs.Order.{Row}
use Rattle.dh_types.specs.declared.version.Version.{Version}
use Rattle.dh_sql.specs.Shape.{Shape}
use Rattle.dh_sql.proofs.Adding.{ReadsBack}
use Rattle.dh_tables.specs.Tables.{Adding, HasShape, IsAdding}

module _ {K X : Type 0} {since : Version} (it : Shape K X) (row : X → Row) (is_row : Row → Bool) (decode : Row → X) (key : X → K) (how : Adding X)
    (adding : IsAdding since it row is_row how) (shape : HasShape it is_row decode key)
    (decodes : (x : X) → is_row (row x) ≡ true → decode (row x) ≡ x) where
  pub read_back : (x : X) → is_row (row x) ≡ true → ReadsBack it how.table (row x) (how.source x) x
  read_back x good = record {
    stays = adding.stays x good;
    columns = adding.columns x;
    keyed = adding.keyed x;
    record_is = shape.row_in_is (row x) ∙ decodes x good;
    grammar = shape.is_row_is (row x) ∙ good;
  }

  pub each_read_back : (xs : List X) → AllByRecursion (λ x. is_row (row x) ≡ true) xs
      → AllByRecursion (λ x. ReadsBack it how.table (row x) (how.source x) x) xs
  each_read_back [] good = tt
  each_read_back (x ∷ xs) good = (read_back x good.0, each_read_back xs good.1)
