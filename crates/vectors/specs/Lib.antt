pub mod Vectors
