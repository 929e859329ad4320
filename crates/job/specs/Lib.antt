pub mod Play
pub mod Stands
pub mod Listing
