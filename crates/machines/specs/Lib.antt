pub mod Refusals
pub mod Reactions
pub mod Questions
pub mod Machines
pub mod Made
pub mod Courses
