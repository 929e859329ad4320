pub mod Drives
pub mod Room
