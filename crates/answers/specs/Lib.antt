pub mod Asked
pub mod Checks
pub mod Leaving
pub mod Lines
