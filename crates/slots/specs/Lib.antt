pub mod CodeMarks
