pub mod Runs
pub mod CodeBeforeRun
