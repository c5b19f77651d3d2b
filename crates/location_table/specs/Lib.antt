pub mod Entries
pub mod Neighbours
pub mod Stations
