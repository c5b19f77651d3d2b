pub mod Queues
pub mod Shorts
pub mod Waits
