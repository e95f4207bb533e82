pub mod Gates
pub mod GatePartLemmas
