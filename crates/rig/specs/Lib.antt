pub mod Calm
pub mod Board
pub mod Steps
pub mod Made
pub mod Laws
pub mod Questions
