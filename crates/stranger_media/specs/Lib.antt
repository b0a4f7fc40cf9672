pub mod Altering
pub mod Alternating
