-- Proofs of the laws of the tree of dispatch orders, which the problem's `impl` names. They define nothing that
-- a contract says.
pub mod States
pub mod Children
pub mod Branches
pub mod Leaves
pub mod Ready
pub mod Reaching
pub mod Least
pub mod Grown
pub mod Loads
pub mod Ended
pub mod Bounded
pub mod Lawful
pub mod Remaining
pub mod Standing
pub mod Times
pub mod Tabled
