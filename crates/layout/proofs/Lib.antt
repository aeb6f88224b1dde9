pub mod PlaceLaws
pub mod WindowLaws
pub mod BoundedLaws
pub mod GatherLaws
pub mod WordLaws
pub mod RangeLaws
pub mod FoldLaws
pub mod MadeLaws
