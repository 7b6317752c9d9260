pub mod SpelledTexts
pub mod ReadFields
pub mod Forms
pub mod Requests
