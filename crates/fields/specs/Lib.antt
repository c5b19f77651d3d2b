pub mod Motions
pub mod Positions
pub mod UpperProtocols
pub mod Laws
