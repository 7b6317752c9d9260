pub mod Session
pub mod LineBodies
pub mod Batch
pub mod Reading
