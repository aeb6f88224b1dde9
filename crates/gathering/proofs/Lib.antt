pub mod GatherListLaws
pub mod SelectLaws
pub mod WalkLaws
pub mod GatherLaws
pub mod GatherSpreadLaws
pub mod SettleLaws
pub mod GatherWholeLaws
