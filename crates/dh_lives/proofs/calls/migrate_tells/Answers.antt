use Rattle.std.proofs.Common.{inl, inr, IsTrue}
use Rattle.std.proofs.lemmas.Result.{MatchResult-weaker}
use Rattle.sqlite.specs.State.{HasCleanDisk, State}
use Rattle.dh_runs.specs.Moved.{IsNotMigrated, MovesOn, StaysAsItWas}
use Rattle.dh_runs.specs.declared.problem.Problem.{Problem}
use Rattle.dh_runs.specs.declared.problem.Problem.TheVariants as problem
use Rattle.dh_lives.specs.Migrations.{EndsWith, IsRefusal, Refused}
use Rattle.dh_lives.proofs.Migrating.{never_migrated}
use Rattle.dh_lives.proofs.Reopened.{both}
use Rattle.dh_lives.proofs.calls.migrate_tells.Goals as goal

pub returns-clause-cut : goal.returns-clause-cut
returns-clause-cut g c =
    let r = c.migrate.result in
    MatchResult-weaker r (both r _ _ _ _ c.migrate.ensures.crash c.migrate.ensures.stays) (λ a it. tt)
    (λ e it. record { moves = it.0; reads = λ clean up sound. let stays = it.1 clean up in (stays.sound sound, inl stays.same) })

pub returns-clause-migrated : goal.returns-clause-migrated
returns-clause-migrated g c =
    let r = c.migrate.result in
    let did = c.migrate.ensures in
    MatchResult-weaker r (both r _ _ _ _ (both r _ _ _ _ did.migrated did.takes) (both r _ _ _ _ did.left did.made))
    (λ a it. (
      it.0.0.0,
      record {
        moves = it.1.1;
        reads = λ clean up sound. ((it.1.0 clean).sound, inr (it.0.1.taken clean, it.0.0.1 clean));
      },
    ))
    (λ e it. tt)

pub returns-clause-answered : goal.returns-clause-answered
returns-clause-answered g c =
    let r = c.migrate.result in
    let did = c.migrate.ensures in
    MatchResult-weaker r (both r _ _ _ _ (both r _ _ _ _ did.migrated did.takes) did.left)
    (λ a it. record {
      said = λ clean. let can = it.0.1.taken clean in record { first = can.first; closed = can.closed; moved = it.0.0.1 clean };
      left = it.1;
    })
    (λ e it. tt)

-- a refusal says that the tables can't be migrated
declined : (old new : State) (problem : Problem) → (HasCleanDisk new → IsNotMigrated old.now.trees problem) → MovesOn old new
    → (HasCleanDisk new → IsTrue new.is_open → StaysAsItWas old new)
    → IsRefusal problem
    → EndsWith Refused old new
declined old new (problem.Refused why) refused moves stays is = record {
  reads = λ clean up. let it = stays clean up in (it.sound, it.same);
  crash = λ clean. moves.untouched clean (never_migrated old.now.trees why (refused clean));
}
declined old new (problem.Fault fault) refused moves stays is = absurd is

pub returns-clause-refused : goal.returns-clause-refused
returns-clause-refused g c =
    let r = c.migrate.result in
    let did = c.migrate.ensures in
    MatchResult-weaker r (both r _ _ _ _ did.takes (both r _ _ _ _ did.crash did.stays)) (λ a it. tt) (λ e it. declined _ _ e.cause it.0.refused it.1.0 it.1.1)
