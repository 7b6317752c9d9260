pub mod Causes
pub mod Lives
pub mod Calls
pub mod Histories
pub mod HistoryLaws
pub mod Migrations
pub mod Answered
