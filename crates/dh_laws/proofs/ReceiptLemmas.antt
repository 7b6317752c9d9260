-- A receipt that was acknowledged stays.
pub mod Events
pub mod Stays
pub mod Steps
