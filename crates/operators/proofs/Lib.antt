pub mod Refining
pub mod Hiding
