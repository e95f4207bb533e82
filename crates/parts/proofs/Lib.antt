pub mod Staging
pub mod Turns
pub mod Ticks
