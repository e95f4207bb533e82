pub mod Outputs
pub mod Checking
pub mod Copying
pub mod Placing
