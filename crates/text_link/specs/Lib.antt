pub mod TextLinks
pub mod Texts
