pub mod TableLaws
pub mod CallsKept
