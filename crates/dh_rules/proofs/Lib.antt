pub mod MovingRuns
pub mod PlayingSteps
