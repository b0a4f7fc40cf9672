pub mod Judging
pub mod Readings
pub mod Roundtrip
pub mod Alterations
pub mod Writings
