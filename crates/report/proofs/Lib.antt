pub mod Plans
pub mod Room
pub mod Told
