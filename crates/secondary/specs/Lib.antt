pub mod Buffers
pub mod Held
pub mod Laws
pub mod Station
pub mod Worked
