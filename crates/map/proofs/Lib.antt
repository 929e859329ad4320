pub mod Contends
pub mod Counts
pub mod Near
pub mod Rows
