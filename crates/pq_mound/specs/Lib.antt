-- What the mound's nodes count as, the facts of the mound, the laws of its steps, and the rule of its table.
pub mod Nodes
pub mod Order
pub mod Cells
pub mod Chains
pub mod Facts
pub mod Laws
pub mod Layout
pub mod Views
pub mod NodeParts
pub mod Batches
pub mod Ties
pub mod Rules
pub mod LawsHold
pub mod Tables
pub mod Steps
pub mod Passes
