pub mod ClosingLaws
pub mod OpenedSound
pub mod ClosedSound
pub mod CloseCodeLaws
pub mod TrimLaws
pub mod FillLaws
