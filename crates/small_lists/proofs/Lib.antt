pub mod NumberLaws
pub mod ServedLaws
