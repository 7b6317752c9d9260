pub mod Shape
pub mod Queries
pub mod Texts
pub mod Changes
pub mod CellTests
pub mod Gathered
