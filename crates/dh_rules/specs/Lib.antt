pub mod Reaches
pub mod Playing
pub use Rattle.dh_types.specs.Records
pub use Rattle.dh_types.specs.Reports
pub use Rattle.dh_types.specs.Replies
