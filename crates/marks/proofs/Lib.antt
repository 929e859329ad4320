pub mod Below
pub mod Digits
pub mod Ranges
pub mod Sets
