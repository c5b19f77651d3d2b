pub mod Reasons
pub mod Outcomes
