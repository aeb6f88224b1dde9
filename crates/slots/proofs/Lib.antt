pub mod MarkLaws
pub mod LeafLaws
pub mod FitLaws
pub mod EntryLaws
