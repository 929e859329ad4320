pub mod Laws
pub mod Rand
pub mod Order
pub mod Sharing
