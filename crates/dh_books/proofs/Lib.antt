pub mod Numbers
pub mod OfKind
