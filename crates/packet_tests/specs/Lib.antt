pub mod Kinds
pub mod Marks
