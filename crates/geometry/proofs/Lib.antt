pub mod GeometryLaws
pub mod TableLaws
pub mod CountedLaws
pub mod FirstLaws
