-- What is free, and an open run, in either order.
pub mod Changes
pub mod EachCommand
pub mod Verdicts
