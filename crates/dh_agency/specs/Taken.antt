-- What is left of a store whose tables were to be taken, whatever came of it.
pub use Rattle.dh_runs.specs.Taking.{TakesAsTheyAre}
pub use Rattle.dh_runs.specs.Taken.{Halts, RestsMidRecovery, TakesForward}
