-- All lives, one after the other.
pub mod Beginnings
pub mod Books
pub mod Commands
pub mod Parts
pub mod Tables
