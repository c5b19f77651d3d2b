pub mod Measures
pub mod Steps
