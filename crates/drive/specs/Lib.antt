pub mod Sure
pub mod Drive
pub mod Orders
pub mod Settling
