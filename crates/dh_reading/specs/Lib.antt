pub mod Reads
pub mod Known
pub mod Bodies
