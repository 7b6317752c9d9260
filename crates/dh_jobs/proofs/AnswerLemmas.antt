-- Lines, in the words of jobs.
use Rattle.std.proofs.Common.{◌≡◌, ◌∙◌, ◌⊎◌, inl, inr, Bool, true, false, ℕ, Option, List, ◌++◌, Err, refl, sym, subst}
use Rattle.sqlite.specs.Store.{Ghosts}
use Rattle.dh_model.specs.Books.{State}
use Rattle.dh_agency.specs.AgencyView.{AgencyView}
use Rattle.dh_agency.specs.Agency.{Leaves, LeavesItsTables, machine, shown_by, stand}
use Rattle.dh_lines.specs.declared.outcome.BatchFault.{BatchFault}
use Rattle.dh_lines.specs.declared.outcome.BatchFault.TheVariants as ended
use Rattle.dh_lines.specs.Session.{records_of}
use Rattle.dh_lines.specs.Batch.{AreAfter, EndsSo, IsStoreFault, LeavesAnswered}
use Rattle.dh_jobs.specs.Ends.{AtFault, AtReading, AtUnread, AtWriting, Stops}
use Rattle.dh_jobs.specs.Leaving.{LinesLeave}

-- a batch that ended early
pub stops : {S : Type 0} (g : Ghosts S) (old new : AgencyView S) (a b : Option (List ℕ)) (fault : BatchFault) (input : List ℕ)
    → (IsStoreFault fault → new.is_stopped ≡ true) → EndsSo g old new a b (Err fault) input
    → Stops (shown_by g new) new.is_stopped a b (stand g old) (records_of input) fault
stops g old new a b (ended.Agency fault) input store (outcome, h) =
    AtFault fault refl (record {
      count = h.count;
      outcome = outcome;
      few = h.few;
      asked = h.asked;
      written = h.written;
      left = h.state;
      stopped = store;
      undone = h.undone;
    })
stops g old new a b (ended.Unread cause) input store (outcome, h) = AtUnread h.count cause outcome refl h.few h.number h.written h.state
stops g old new a b (ended.Input cause) input store h = AtReading h.count cause refl h.few h.written h.state
stops g old new a b (ended.Output output) input store h = AtWriting h.count output h.fields h.cut refl h.here h.part h.written h.state

-- a batch that answered its lines has not stopped
pub goes_on : (was is : Bool) → was ≡ false → (is ≡ was) ⊎ (⊥ × (is ≡ true)) → is ≡ false
goes_on was is before (inl same) = same ∙ before
goes_on was is before (inr (never, stopped)) = absurd never

-- what a crash leaves behind a batch, where no more than the end of the job was asked for since
pub lines_left : {S : Type 0} (g : Ghosts S) (old mid new : AgencyView S) → LeavesAnswered g old mid → LeavesItsTables g mid
    → Leaves g new (λ left. left ≡ machine g mid) → LinesLeave (shown_by g new) (stand g old)
lines_left g old mid new h rests same = record {
  rows = h.rows;
  within = h.within;
  one = h.one;
  left = λ left may.
      let it = same left may in (
        it.0,
        subst (λ (t : State). AreAfter (stand g old) h.rows t ⊎ AreAfter (stand g old) (h.rows ++ h.within) t) (sym it.1)
            (h.left (shown_by g mid).now.trees rests.some).1,
      );
}
