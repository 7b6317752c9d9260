pub mod Texts
pub mod Numbers
pub mod Counts
pub mod Kinds
pub mod Money
pub mod Laws
