pub mod Carried
pub mod Standing
