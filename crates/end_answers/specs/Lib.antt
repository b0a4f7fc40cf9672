pub mod Reports
pub mod Settings
pub mod States
