pub mod TypedWords
pub mod Table
pub mod Options
pub mod Jobs
