pub mod AnsweringCases
pub mod RequestCodeLaws
