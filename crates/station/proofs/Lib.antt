pub mod Hearing
pub mod Orders
pub mod Same
pub mod Sendable
pub mod Waiting
