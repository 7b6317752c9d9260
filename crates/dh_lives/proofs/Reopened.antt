-- What is found after a call and a crash.
use Rattle.std.proofs.Common.{◌≤◌, inr, Result, Ok, Err, IfOk, MatchResult, OnErr, arith}
use Rattle.sqlite.specs.Store.{Ghosts}
use Rattle.sqlite.specs.Effect.{IsDatabase}
use Rattle.sqlite.specs.State.{HasCleanDisk}
use Rattle.sqlite.specs.Held.{Held, state}
use Rattle.sqlite_trees.specs.View.{doubt}
use Rattle.dh_types.specs.declared.command.Command.{Command}
use Rattle.dh_types.specs.declared.reply.Reply.{Reply}
use Rattle.dh_model.specs.Books as machine
use Rattle.dh_schema.specs.Store.{AreTables, tables}
use Rattle.dh_runs.specs.Outcomes.{IsInterrupted, IsRecovered, IsAnsweredBy, IsMidRecovery}
use Rattle.dh_lives.specs.Calls.{Call, Recovered, RecoveryInterrupted, StepInterrupted, Stepped, Tells}
use Rattle.dh_lives.specs.Histories.{IsFoundAfter, IsOfALine, IsOpenedAnew, IsSoundIn}
use Rattle.dh_lives.proofs.Following.{answered, broken, found_so, mid_recovery}

pub if_ok : {A E : Type 0} (r : Result A E) (P Q : A → Type 0) → ((a : A) → P a → Q a) → IfOk r P → IfOk r Q
if_ok (Ok a) P Q f h = f a h
if_ok (Err e) P Q f h = tt

pub on_err : {A E : Type 0} (r : Result A E) (P Q : Type 0) → (P → Q) → OnErr r P → OnErr r Q
on_err (Ok a) P Q f h = tt
on_err (Err e) P Q f h = f h

pub both : {A E : Type 0} (r : Result A E) (P Q : A → Type 0) (M N : E → Type 0) → MatchResult r P M → MatchResult r Q N
    → MatchResult r (λ a. P a × Q a) (λ e. M e × N e)
both (Ok a) P Q M N p q = (p, q)
both (Err e) P Q M N p q = (p, q)

module _ {S : Type 0} (g : Ghosts S) (before : Held S) where
  -- the call ended so, and its files were opened anew
  pub opened_anew : (ended found : Held S) → IsOpenedAnew g ended found → (HasCleanDisk (state g found) → IsDatabase (state g found).now)
      → doubt (state g ended).is_clean ≤ doubt (state g found).is_clean
      → HasCleanDisk (state g found) → (call : Call) → IsOfALine call → Tells call (state g before) (state g ended) → IsFoundAfter g before call found
  opened_anew ended found anew lists was_clean clean call line tells = record {
    ended = ended;
    happened = record { tells = tells; line = line; finds = inr anew; lists = lists clean; clean = (omega (arith, was_clean, clean), clean) };
  }

  module _ (found : Held S) where
    abbrev Finds : (machine.State → machine.State → Type 0) → Type 0
    Finds P = AreTables (P (tables (state g before))) (state g found).now.trees

    pub said_found : (told : Command) (reply : Reply) → IsFoundAfter g before (Stepped told reply) found → Finds (IsAnsweredBy told reply)
    said_found told reply it =
        let so = it.happened in
        found_so g it.ended found (AreTables (IsAnsweredBy told reply (tables (state g before))))
        (answered (state g before) (state g it.ended) so.clean.0 (IsAnsweredBy told reply) so.tells) so.finds so.clean.1
