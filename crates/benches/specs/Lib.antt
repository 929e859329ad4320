pub mod Complete
pub mod Paths
