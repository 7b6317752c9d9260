pub mod Joining
pub mod Walks
pub mod Complete
pub mod Told
pub mod Values
pub mod Answers
pub mod Outcomes
