pub mod Table
pub mod CodeFits
pub mod Numbers
