pub mod LeafIdLaws
pub mod GatheredLaws
