pub mod Releasing
pub mod MovingBack
pub mod CodePlan
