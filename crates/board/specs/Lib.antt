pub mod Holes
pub mod NewState
pub mod CodeHoles
