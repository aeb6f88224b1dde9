pub mod RunLaws
pub mod RunCodeLaws
pub mod RunSound
