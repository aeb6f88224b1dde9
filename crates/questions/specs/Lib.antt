pub mod Questions
pub mod Numbers
