pub mod Gathered
pub mod AnsweredFrom
