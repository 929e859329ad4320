pub mod Below
pub mod View
pub mod Sets
pub mod Equal
