pub mod Accept
pub mod Rand
pub mod Repeated
pub mod Slots
pub mod Table
