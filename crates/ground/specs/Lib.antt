pub mod Faults
pub mod Roots
pub mod Spans
pub mod Bounds
pub mod Squares
