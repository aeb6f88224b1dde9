pub mod DecimalLaws
pub mod ReadingLaws
