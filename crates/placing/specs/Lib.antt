pub mod Placing
pub mod CodeSpot
