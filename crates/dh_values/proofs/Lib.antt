pub mod Ascii
pub mod KindTexts
pub mod NumberTexts
pub mod MoneyTexts
