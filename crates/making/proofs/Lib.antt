pub mod MakingLaws
pub mod Examples
