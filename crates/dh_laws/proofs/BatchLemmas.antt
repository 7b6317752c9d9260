-- Batches, one after the other, lead to the same whole books.
pub mod Charged
pub mod Dues
pub mod MonthRows
pub mod Fees
pub mod Rules
pub mod Whole
pub mod Counts
pub mod Small
pub mod Next
pub mod Closing
pub mod Opening
pub mod Moving
