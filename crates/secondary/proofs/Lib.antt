pub mod Orders
pub mod Outs
pub mod Turns
