pub mod Patterns
pub mod Noisy
pub mod Lossy
