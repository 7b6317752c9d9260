pub mod Columns
pub mod ReportTexts
