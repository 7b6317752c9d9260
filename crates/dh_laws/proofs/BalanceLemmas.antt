-- How each step moves what a lease owes.
pub mod EachStep
pub mod Charges
pub mod Dues
pub mod Sums
