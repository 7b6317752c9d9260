mod ReadLemmas
mod BufferLemmas
mod BodyLemmas
pub mod Taking
