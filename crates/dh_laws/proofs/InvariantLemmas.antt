-- What every change keeps: keys, references, staff, fees, and the order of the books.
pub mod KeyedRows
pub mod Keys
pub mod Settled
pub mod Fees
pub mod Growth
pub mod References
pub mod Staff
pub mod Managers
pub mod EarlyEnds
pub mod Order
pub mod EmptyBooks
pub mod Versions
