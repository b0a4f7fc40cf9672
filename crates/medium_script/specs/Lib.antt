pub mod Calls
pub mod Specs
pub mod Told
