pub mod Lives
pub mod Hops
pub mod Joins
