pub mod Kinds
pub mod Common
pub mod Faults
pub mod Contents
pub mod Fitting
pub mod Reading
pub mod Writing
