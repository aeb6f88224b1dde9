pub mod TakenLaws
pub mod TakenSlots
pub mod TakeCodeLaws
pub mod FormerCodeLaws
