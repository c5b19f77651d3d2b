pub mod Addresses
pub mod Frames
