pub mod AnswerLemmas
pub mod ServedLemmas
mod FirstLineLemmas
pub mod ServingLemmas
pub mod PrintedLemmas
mod CallLemmas
mod TryLemmas
