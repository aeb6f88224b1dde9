pub mod Batch
pub mod Numbers
