pub mod Answers
pub mod Mapping
pub mod Unmapping
pub mod Paths
pub mod PlacesLeft
