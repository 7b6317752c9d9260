pub mod CrashLemmas
pub mod OneRecord
pub mod RunningLemmas
pub mod AllRecords
pub mod Following
pub mod LineLemmas
