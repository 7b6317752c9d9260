pub mod SameValues
pub mod SameRecords
pub mod WritingLemmas
