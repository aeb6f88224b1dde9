pub mod World
pub mod Full
pub mod Find
