pub mod Script
pub mod Steps
