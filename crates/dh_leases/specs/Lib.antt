pub mod Dues
pub mod Posted
pub mod Sums
pub mod Plans
pub mod Rows
