pub mod Opening
pub mod Closing
pub mod Trimming
pub mod Filling
