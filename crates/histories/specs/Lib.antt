pub mod Histories
pub mod Slots
pub mod Done
pub mod NoPlace
pub mod Refusals
pub mod Demands
pub mod Batches
pub mod Told
