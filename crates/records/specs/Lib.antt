pub mod Fields
pub mod Build
pub mod Fits
pub mod Reading
