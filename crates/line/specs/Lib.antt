pub mod Models
pub mod Media
pub mod Hearing
pub mod Called
pub mod Opened
pub mod Asked
