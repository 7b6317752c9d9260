-- A run or an opening that was acknowledged stays, and its month is charged.
pub mod Told
pub mod Steps
pub mod Stays
