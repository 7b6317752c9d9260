pub mod TextLemmas
pub mod FinishLemmas
pub mod AnswerLemmas
pub mod StoreLemmas
pub mod FileLemmas
pub mod WordLemmas
pub mod ProcessLemmas
