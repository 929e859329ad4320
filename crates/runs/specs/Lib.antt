pub mod Decider
pub mod Performed
