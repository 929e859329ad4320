pub mod Kinds
pub mod Messages
pub mod Ways
pub mod Waiting
pub mod Queue
pub mod Coin
pub mod Places
