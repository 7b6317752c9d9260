pub mod ClosedMonths
pub mod Months
pub mod Counts
pub mod Fees
pub mod Receipts
pub mod Occupancies
