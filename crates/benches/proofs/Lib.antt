pub mod Complete
pub mod Links
pub mod Paths
