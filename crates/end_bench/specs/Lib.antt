pub mod Bench
pub mod Calls
pub mod Closing
pub mod Fair
pub mod Models
pub mod Named
