pub mod Pairs
pub mod Close
pub mod Node
pub mod Link
