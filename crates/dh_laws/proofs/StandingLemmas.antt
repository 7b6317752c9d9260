-- The tables, and where the machine stands with them.
pub mod Tells
pub mod Batches
