pub mod TextMeanings
pub mod Creating
pub mod Going
pub mod Building
pub mod Telling
