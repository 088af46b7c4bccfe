-- Proofs of the laws of the tree of active schedules, which the problem's `impl` names. They define nothing that a
-- contract says.
pub mod Moving
pub mod Passing
pub mod Above
pub mod Packing
pub mod Starting
pub mod Bounded
pub mod Lawful
