pub mod Frame
pub mod Printed
pub mod Worked
