pub mod Answerable
pub mod End
pub mod Models
pub mod Reports
pub mod Runs
pub mod Valid
pub mod Waits
pub mod Worked
