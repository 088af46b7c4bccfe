-- Proofs that the tree of decisions has the laws of a problem's tree. They stand here since the problem's `impl`
-- names them; no contract cites them.
pub mod Denser
pub mod Ordered
pub mod InOrder
pub mod Dantzig
pub mod Taken
pub mod Best
pub mod Tree
