pub mod Questions
pub mod Verdicts
