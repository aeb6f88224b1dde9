pub mod Bounded
pub mod Places
pub mod Outcomes
pub mod CodeWords
