-- Tables of the first version hold nothing of what came with the second.
use Rattle.std.proofs.Common.{◌≡◌, refl, sym, subst}
use Rattle.std.specs.declared.cmp.Ordering.{Ordering}
use Rattle.std.specs.FinMap.{FinMap, empty}
use Rattle.dh_types.specs.declared.version.Version.{Version}
use Rattle.dh_types.specs.declared.version.Version.TheVariants.{First, Second}
use Rattle.dh_model.specs.Kinds.{Endings, PartFees, order_of}
use Rattle.dh_model.specs.Rules.{Each, HasFees}
use Rattle.dh_laws.proofs.InvariantLemmas.EmptyBooks.{each_of_none}
use Rattle.dh_sql.specs.Shape.{rows_in}
use Rattle.dh_schema.specs.Kinds.{shape_of}
use Rattle.dh_schema.specs.TableLaws.{FirstBreaksNoLaterRule}
use Rattle.dh_schema.specs.Tables.{books_in, rows_since, version_of_tables}

none_of_later : {K X : Type 0} {R : K → K → Ordering} (version : Version) (rows : FinMap R X) → version ≡ First → rows_since Second version rows ≡ empty
none_of_later First rows is = refl
none_of_later Second rows is = cc

-- so nothing can be wrong with one of them
each_of_later : {K X : Type 0} (R : K → K → Ordering) (version : Version) (rows : FinMap R X) (P : X → Type 0) → version ≡ First
    → Each (rows_since Second version rows) P
each_of_later R version rows P is = subst (λ left. Each left P) (sym (none_of_later version rows is)) (each_of_none R P)

pub first_breaks_no_later_rule : FirstBreaksNoLaterRule
first_breaks_no_later_rule trees is = (
  subst (HasFees (books_in trees)) (sym is)
      (each_of_later (order_of PartFees) (version_of_tables trees) (rows_in (shape_of PartFees) trees) (λ it. ⊥) is),
  each_of_later (order_of Endings) (version_of_tables trees) (rows_in (shape_of Endings) trees) _ is,
)
