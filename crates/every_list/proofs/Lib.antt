pub mod StandingLaws
pub mod OrderLaws
pub mod QuestionLaws
pub mod RequestLaws
pub mod ListLaws
pub mod EveryList
pub mod CodeLaws
pub mod ListingLaws
