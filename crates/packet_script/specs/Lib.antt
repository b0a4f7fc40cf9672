pub mod Calls
pub mod Told
