pub mod Fitting
pub mod Rowed
pub mod Same
pub mod Walks
