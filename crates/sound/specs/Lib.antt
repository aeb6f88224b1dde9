pub mod Contents
pub mod Sentences
pub mod Audit
pub mod Sound
pub mod CodeCounting
pub mod CodeChained
