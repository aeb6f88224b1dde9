pub mod CaseLaws
pub mod CallLaws
pub mod SlotsInUse
pub mod CallCodeLaws
