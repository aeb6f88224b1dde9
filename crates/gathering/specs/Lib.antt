pub mod Regathering
pub mod CodeGathering
