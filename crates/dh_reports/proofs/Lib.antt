pub mod LineLemmas
pub mod ColumnLemmas
pub mod FigureLemmas
pub mod PartLemmas
pub mod FeedLemmas
pub mod ReportFeeds
