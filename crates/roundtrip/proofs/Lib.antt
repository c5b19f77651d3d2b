pub mod Stands
pub mod There
pub mod Checked
pub mod Read
pub mod Made
pub mod Here
pub mod Written
pub mod Called
