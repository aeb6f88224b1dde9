pub mod ClearingLaws
pub mod ClearCodeLaws
