pub mod LeafIds
pub mod GatheredIds
