pub mod Standing
pub mod SmallRequests
pub mod SmallLists
pub mod Listing
pub mod CodeLists
