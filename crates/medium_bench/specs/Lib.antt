pub mod Leaving
pub mod Printed
