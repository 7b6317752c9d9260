-- What a call says of a command, and what it leaves where it is interrupted.
pub use Rattle.dh_runs.specs.Outcomes.{IsInterrupted, IsRecovered, IsAnsweredBy, IsMidRecovery, reply_of}
