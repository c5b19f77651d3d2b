pub mod Steps
pub mod Coordinates
pub mod Agree
