pub mod Clip
pub mod Filled
pub mod Lines
