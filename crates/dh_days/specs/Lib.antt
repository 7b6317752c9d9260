pub mod Months
pub mod Days
pub mod Dates
pub mod Laws
