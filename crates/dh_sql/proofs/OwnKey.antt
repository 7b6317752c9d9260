-- A table whose key is its rowid: each rowid is of one row.
use Rattle.std.proofs.Common.{◌≡◌, ◌∙◌, sym, ap, subst, ℕ, pos, true, is_eq}
use Rattle.std.specs.Ordering.{eq_by_cmp, int_cmp, nat_cmp}
use Rattle.std.specs.FinMap.{int_cmp-IsAntisymmetric}
use Rattle.std.proofs.lemmas.Cmp.{tied_itself}
use Rattle.sqlite.specs.declared.types.Value.TheVariants.{Int}
use Rattle.sqlite_value.specs.Order.{Row, value_cmp}
use Rattle.sqlite_value.proofs.OrderLemmas.{value_cmp-Int}
use Rattle.sqlite_rules.specs.Edit.{id_in}
use Rattle.sqlite_trees.specs.Tree.{Trees, rowid}
use Rattle.dh_model.proofs.KeyOrders.{nat_total}
use Rattle.dh_sql.specs.Shape.{AreApart, IsKept, IsStored, Shape, stored_in}
use Rattle.dh_sql.proofs.Comparing.{is_tie}
use Rattle.dh_sql.proofs.Lists.{has_all, one_of_key}

itself : (k : ℕ) → eq_by_cmp nat_cmp k k ≡ true
itself k = ap is_eq (tied_itself nat_total k)
