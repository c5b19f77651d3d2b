pub mod Cutting
pub mod Naming
pub mod Telling
