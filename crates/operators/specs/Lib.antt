pub mod Joined
pub mod Refusals
pub mod Heeding
pub mod Holding
pub mod Emitting
