pub mod Commands
pub mod Line
pub mod LineTold
pub mod Told
