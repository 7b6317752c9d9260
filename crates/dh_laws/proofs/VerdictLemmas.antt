-- What an accepted command's checks found, and what holds of its rows.
pub mod Acceptance
pub mod Cases
pub mod Checks
pub mod Rulings
