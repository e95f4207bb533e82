pub mod Writing
pub mod Writers
pub mod Rewriting
pub mod Pens
