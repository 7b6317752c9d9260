pub mod HeadLemmas
pub mod LineLemmas
pub mod Seeking
pub mod Found
pub mod Parting
pub mod TextTokens
pub mod Orders
pub mod Amounts
