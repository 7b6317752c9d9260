pub mod FirstWins
pub mod FrozenCommands
pub mod OpenRuns
pub mod Owing
