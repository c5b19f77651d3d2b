pub mod Trips
pub mod Called
