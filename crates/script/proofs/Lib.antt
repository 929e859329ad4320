pub mod Drafts
pub mod EventLists
