pub mod Chain
pub mod Cutting
