pub mod Lifetimes
pub mod Timestamps
pub mod Units
