pub mod Shown
pub mod AskedBooks
pub mod PutOff
pub mod EndingsBeside
pub mod AnsweredFrom
pub mod ChargeOfMonth
