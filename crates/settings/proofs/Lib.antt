pub mod Stepping
pub mod Sizes
pub mod Looping
