pub mod MonthTexts
pub mod MonthsLater
pub mod TextOrder
pub mod DayTexts
pub mod ReadDays
pub mod DayMonths
