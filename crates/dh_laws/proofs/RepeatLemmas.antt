-- What a command gets whose key was used.
pub mod Orders
pub mod Keys
pub mod Replies
pub mod Again
