pub mod Ruled
pub mod Examples
