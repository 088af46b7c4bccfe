-- The order of a tree of nodes, and nodes that are guarded by locks.
pub mod Ancestors
pub mod Order
pub mod OrderLaws
pub mod Guards
pub mod Layout
pub mod Views
pub mod Parts
pub mod Facts
pub mod NodeLaws
pub mod Raising
pub mod Steps
pub mod Passes
