pub mod Answers
pub mod Blanks
pub mod Fronts
