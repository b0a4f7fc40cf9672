pub mod Reports
pub mod Sides
pub mod Beginning
