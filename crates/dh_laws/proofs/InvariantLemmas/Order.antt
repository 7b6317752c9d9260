-- The rows of an accepted command leave books in order.
use Rattle.std.proofs.Common.{◌≡◌, ◌∙◌, sym, ap, ℕ, Option, Some, None}
use Rattle.std.specs.FinMap.{get, values}
use Rattle.dh_model.proofs.Among.{is_among}
use Rattle.dh_model.proofs.KeyOrders.{nat_ties, nat_total}
use Rattle.dh_model.proofs.MapRows.{of_row, there}
use Rattle.dh_laws.proofs.BalanceLemmas.Dues.{none_if}
use Rattle.dh_model.specs.declared.open_run.OpenRun.{OpenRun}
use Rattle.dh_model.specs.declared.rows.Change.{Change}
use Rattle.dh_model.specs.Books.{Books}
use Rattle.dh_model.specs.Kinds.{Kind}
use Rattle.dh_model.specs.Edits.{edit_of}
use Rattle.dh_model.specs.Machine.{changed}
use Rattle.dh_model.specs.Rules.{MeetsRules, Rule}
use Rattle.dh_laws.specs.InOrder.{IsInOrder, run_after}
use Rattle.dh_laws.specs.Keeping.{ChangesKeepOrder}
use Rattle.dh_laws.proofs.VerdictLemmas.Acceptance.{Accepted}
use Rattle.dh_laws.proofs.InvariantLemmas.Fees.{keeps_fees}
use Rattle.dh_laws.proofs.InvariantLemmas.Keys.{keeps_keys}
use Rattle.dh_laws.proofs.InvariantLemmas.Settled.{AreSettled, keeps_settled}
use Rattle.dh_laws.proofs.InvariantLemmas.Managers.{keeps_managers}
use Rattle.dh_laws.proofs.InvariantLemmas.References.{keeps_references}
use Rattle.dh_laws.proofs.InvariantLemmas.Staff.{keeps_branches}
use Rattle.dh_laws.proofs.MonthLemmas.Changes.{changes_keep_months}
use Rattle.dh_laws.proofs.MonthLemmas.Keep.{RunInMonths}
use Rattle.dh_laws.proofs.VerdictLemmas.Cases.{IsLimited, accepted, limited}

module _ (size : ℕ) (books : Books) (run : Option OpenRun) (in_order : IsInOrder size books run) (rows : Change) (accepted : Accepted books run rows)
    (limits : IsLimited (edit_of rows)) where
  was_settled : AreSettled books
  was_settled = let r = in_order.rules in
      record {
        overlaps = r Rule.Overlaps;
        starts = r Rule.Starts;
        terms = r Rule.Terms;
        deposits = r Rule.Deposits;
        keys = r Rule.Keys;
        endings =
            r Rule.Endings;
      }

  -- a lease number that is not there has no ending
  unended : (number : ℕ) → get books.leases number ≡ None → get books.endings number ≡ None
  unended number none = none_if (get books.endings number) (λ it is.
      let its : it.lease ≡ number = in_order.keyed Kind.Endings number it is in
      let names = in_order.rules Rule.References in
      let found = (there nat_total nat_ties books.leases it.lease).0 (names Kind.Endings it (is_among (values books.endings) it
      (of_row nat_total nat_ties books.endings number it is))) in
      let some : get books.leases number ≡ Some found.0 = ap (get books.leases) (sym its) ∙ found.1 in
      let no = sym none ∙ some in cc)

  in_months : RunInMonths size (changed rows books) (run_after run rows)
  in_months =
      changes_keep_months size books run in_order.keyed (in_order.rules Rule.References)
      (record { runs = in_order.rules Rule.Runs; months = in_order.rules Rule.Months; shown = in_order.shown }) rows accepted

  settled : AreSettled (changed rows books)
  settled = keeps_settled books run in_order.keyed was_settled (in_order.rules Rule.Runs) (in_order.rules Rule.References) unended rows accepted limits

  rules_kept : MeetsRules (changed rows books) size
  rules_kept Rule.References = keeps_references books run (in_order.rules Rule.References) rows accepted
  rules_kept Rule.Branches = keeps_branches books run (in_order.rules Rule.Branches) rows accepted
  rules_kept Rule.Managers = keeps_managers books run in_order.keyed (in_order.rules Rule.References) (in_order.rules Rule.Managers) rows accepted
  rules_kept Rule.Overlaps = settled.overlaps
  rules_kept Rule.Starts = settled.starts
  rules_kept Rule.Terms = settled.terms
  rules_kept Rule.Deposits = settled.deposits
  rules_kept Rule.Keys = settled.keys
  rules_kept Rule.Runs = in_months.runs
  rules_kept Rule.Months = in_months.months
  rules_kept Rule.Fees =
      keeps_fees size books run (in_order.rules Rule.References) (in_order.rules Rule.Runs) in_order.shown rows accepted (in_order.rules Rule.Fees)
  rules_kept Rule.Endings = settled.endings

  order_kept : IsInOrder size (changed rows books) (run_after run rows)
  order_kept = record { keyed = keeps_keys books in_order.keyed rows; rules = rules_kept; shown = in_months.shown }

pub changes_keep_order : (size : ℕ) → ChangesKeepOrder size
changes_keep_order size books run told rows pos in_order entered h =
    order_kept size books run in_order rows (accepted books run rows told h) (limited books run rows told entered h)
