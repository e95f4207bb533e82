pub mod Tried
pub mod Hiding
pub mod Findings
pub mod Found
pub mod Left
