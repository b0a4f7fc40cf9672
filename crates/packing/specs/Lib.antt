pub mod Rowed
pub mod Letters
pub mod Packed
pub mod AllCarried
