-- A queue of one entry under one lock.
pub mod Spot
pub mod Passes
pub mod LawsHold
