pub mod FieldKinds
pub mod FieldSources
pub mod Lines
pub mod Readings
pub mod PropertyFields
pub mod Named
