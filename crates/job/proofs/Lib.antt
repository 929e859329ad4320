pub mod Turns
pub mod Counts
pub mod Trails
pub mod Rooms
pub mod Ends
