pub mod Refusals
pub mod Names
pub mod Commands
pub mod Reading
pub mod Recipes
pub mod Values
pub mod Stepping
