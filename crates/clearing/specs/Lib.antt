pub mod Clearing
pub mod CodeKept
