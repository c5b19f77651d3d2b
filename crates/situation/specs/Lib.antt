pub mod Described
pub mod Filled
pub mod Halves
pub mod Names
pub mod Values
