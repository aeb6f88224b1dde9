pub mod Taking
pub mod CodePool
