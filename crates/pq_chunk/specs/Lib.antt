-- The rule of a chunk queue.
pub mod Layout
pub mod Places
pub mod Views
pub mod Letters
pub mod Front
pub mod Chain
pub mod Stages
pub mod Contents
pub mod Building
pub mod Offers
pub mod Rules
pub mod Stays
pub mod LawsHold
pub mod Steps
pub mod Laws
pub mod Opening
