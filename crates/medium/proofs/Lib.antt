pub mod Altering
pub mod Exact
pub mod Lists
pub mod Queued
pub mod Written
