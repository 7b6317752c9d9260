-- The part rows of an open month tell which run is open, and how far it is.
pub mod Batches
pub mod Run
