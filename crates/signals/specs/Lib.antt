pub mod Sets
pub mod Bytes
pub mod Wires
