pub mod Audits
pub mod Deciding
pub mod Onward
