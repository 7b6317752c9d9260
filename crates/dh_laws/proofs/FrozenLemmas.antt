-- What may be asked while a run is open, and what is refused because of it.
pub mod Answers
pub mod Refusals
