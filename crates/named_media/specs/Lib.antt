pub mod AllCarried
pub mod Chosen
pub mod Holding
pub mod Media
pub mod Model
