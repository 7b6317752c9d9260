pub mod Heads
pub mod HeaderLines
pub mod Routes
pub mod Targets
pub mod Pieces
pub mod Texts
pub mod Requests
pub mod Steps
