-- Runs, months and the open run, whatever rows are added.
pub mod Alike
pub mod Changes
pub mod Close
pub mod Dues
pub mod Keep
pub mod Open
pub mod Shown
pub mod Sums
pub mod Whole
pub mod Steps
