pub mod PlacedSound
pub mod DecisionLaws
pub mod NoPlace
pub mod TakenSound
pub mod PlacingSound
pub mod PlaceCodeLaws
pub mod FormerLaws
pub mod PlacingLaws
