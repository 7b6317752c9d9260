pub mod Seen
pub mod Sums
