-- Commands that are answered, and interrupted ones that were carried out.
pub mod Whole
pub mod Meanwhile
pub mod Runs
pub mod Cuts
pub mod Carried
pub mod Steps
