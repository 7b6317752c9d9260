pub mod Output
pub mod Records
pub mod Branches
pub mod Reports
pub mod Replies
pub mod Laws
