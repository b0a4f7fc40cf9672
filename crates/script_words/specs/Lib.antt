pub mod Arguments
pub mod Faults
pub mod Told
