pub mod Channel
pub mod Counts
pub mod Readings
pub mod Sends
pub mod OneEnd
pub mod BothSides
pub mod Clauses
pub mod Openings
