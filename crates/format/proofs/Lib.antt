pub mod Variants
pub mod Spelling
pub mod Roundtrip
pub mod Readings
pub mod Firsts
pub mod Keeping
