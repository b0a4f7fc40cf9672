pub mod Slots
pub mod Ring
pub mod Iter
