pub mod Wires
pub mod Numbers
