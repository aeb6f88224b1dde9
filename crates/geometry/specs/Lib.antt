pub mod Geometry
pub mod Tables
pub mod Entries
