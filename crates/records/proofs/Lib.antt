pub mod RecordCodeLaws
pub mod ChainCodeLaws
