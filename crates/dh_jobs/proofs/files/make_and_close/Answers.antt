use Rattle.std.proofs.Common.{◌≡◌, ℕ, [], ap, inl, inr, refl, subst, arith}
use Rattle.sqlite.specs.State as conn
use Rattle.sqlite.specs.State.{HasCleanDisk}
use Rattle.dh_model.specs.Books.{start}
use Rattle.dh_agency.specs.Store.{Commits}
use Rattle.dh_jobs.specs.declared.status.Status.TheVariants.{Done}
use Rattle.dh_jobs.specs.Printed.{Before, EndsByFault, IsMakingEnd}
use Rattle.dh_jobs.specs.Texts.{created_line}
use Rattle.dh_jobs.proofs.StoreLemmas.{prints_as, same_error}
use Rattle.dh_jobs.proofs.TextLemmas.{fault_told, puts_as}
use Rattle.dh_jobs.proofs.files.make_and_close.Goals as goal

pub returns-then-is_there-clause-printed : goal.returns-then-is_there-clause-printed
returns-then-is_there-clause-printed g c =
    prints_as (IsMakingEnd c.args.first) (created_line c.args.first) Done _ _ c.status_if_written-status.result (refl, refl)
    (puts_as c.print_created.result (created_line c.args.first) Done c.status_if_written-status.result _ _ c.status_if_written-status.ensures
    c.print_created.ensures)

-- a disk that is clean behind a change was clean before it
still_clean : (old new : conn.State) (first : ℕ) → Commits old new (λ s. s ≡ start first) → HasCleanDisk new → HasCleanDisk old
still_clean old new first h clean = omega (arith, h.clean, clean)

pub returns-then-is_there-clause-ends : goal.returns-then-is_there-clause-ends
returns-then-is_there-clause-ends g c = record {
  last = c.in-Ok.conn;
  was_clean = still_clean _ _ c.args.first c.in-Ok.ensures.left;
  left = c.in-Ok.ensures.left;
  occupied = λ wrong. let no = c.in-Ok.ensures.occupied wrong in cc;
  closed_to = c.in-Ok-close.ensures;
  ends =
      inl (
        c.in-Ok.ensures.made,
        refl,
        puts_as c.print_created.result (created_line c.args.first) Done c.status_if_written-status.result _ _ c.status_if_written-status.ensures
            c.print_created.ensures,
      );
}

pub returns-else-is_there-clause-printed : goal.returns-else-is_there-clause-printed
returns-else-is_there-clause-printed g c =
    Before (fault_told _ _ c.leave-fault.result c.end_by_fault.result (c.leave-fault.ensures.first tt) c.end_by_fault.ensures)

pub returns-else-is_there-clause-ends : goal.returns-else-is_there-clause-ends
returns-else-is_there-clause-ends g c = record {
  last = c.in-Ok.conn;
  was_clean = still_clean _ _ c.args.first c.in-Ok.ensures.left;
  left = c.in-Ok.ensures.left;
  occupied = λ wrong. let no = c.in-Ok.ensures.occupied wrong in cc;
  closed_to = c.in-Ok-close.ensures;
  ends =
      inr (
        fault_told _ _ c.leave-fault.result c.end_by_fault.result (c.leave-fault.ensures.first tt) c.end_by_fault.ensures,
        inr c.in-Ok.ensures.made,
      );
}

pub returns-in-Err-close-clause-printed : goal.returns-in-Err-close-clause-printed
returns-in-Err-close-clause-printed g c =
    let first = c.leave-fault-in-Err-close.ensures.first c.in-Err-close.ensures.first in
    Before (fault_told _ _ c.leave-fault-in-Err-close.result c.end_by_fault-in-Err-close.result first c.end_by_fault-in-Err-close.ensures)

pub returns-in-Err-close-clause-ends : goal.returns-in-Err-close-clause-ends
returns-in-Err-close-clause-ends g c =
    let first = c.leave-fault-in-Err-close.ensures.first c.in-Err-close.ensures.first in
    record {
      last = c.in-Ok.conn;
      was_clean = still_clean _ _ c.args.first c.in-Ok.ensures.left;
      left = c.in-Ok.ensures.left;
      occupied = λ wrong. let no = c.in-Ok.ensures.occupied wrong in cc;
      closed_to = c.in-Err-close.ensures;
      ends =
          inr (
            fault_told _ _ c.leave-fault-in-Err-close.result c.end_by_fault-in-Err-close.result first c.end_by_fault-in-Err-close.ensures,
            inr c.in-Ok.ensures.made,
          );
    }

pub returns-in-Err-clause-printed : goal.returns-in-Err-clause-printed
returns-in-Err-clause-printed g c =
    let first = c.leave-fault-in-Err.ensures.first c.in-Err.ensures.cause in
    Before (fault_told _ _ c.leave-fault-in-Err.result c.end_by_fault-in-Err.result first c.end_by_fault-in-Err.ensures)

pub returns-in-Err-clause-ends : goal.returns-in-Err-clause-ends
returns-in-Err-clause-ends g c =
    let first = c.leave-fault-in-Err.ensures.first c.in-Err.ensures.cause in
    record {
      last = c.in-Err.field-0.conn;
      was_clean = still_clean _ _ c.args.first c.in-Err.ensures.crash;
      left = c.in-Err.ensures.crash;
      occupied = λ wrong.
          let is = same_error _ c.in-Err.field-0 _ refl (c.in-Err.ensures.occupied wrong) in (
            subst
                (λ f. EndsByFault f (g.W.Write.contents c.args.writer.now) (g.W.Write.contents c.end_by_fault-in-Err.new.writer) []
                c.end_by_fault-in-Err.result)
                (c.leave-fault-in-Err.ensures.store (ap (λ e. e.cause) is))
                c.end_by_fault-in-Err.ensures,
            ap (λ e. e.conn) is,
          );
      closed_to = tt;
      ends =
          inr (
            fault_told _ _ c.leave-fault-in-Err.result c.end_by_fault-in-Err.result first c.end_by_fault-in-Err.ensures,
            inl c.in-Err.ensures.undone,
          );
    }
