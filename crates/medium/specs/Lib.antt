pub mod Bursts
pub mod Letters
pub mod Classes
pub mod Offered
pub mod Records
pub mod Queue
pub mod AllCarried
