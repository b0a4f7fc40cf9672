pub mod Turning
pub mod Hits
