-- Lemmas that the proofs of several functions share.
pub mod Totals
pub mod FullWords
pub mod Bits
pub mod Prefixes
pub mod Expanded
pub mod Sorting
pub mod Chosen
pub mod Walks
pub mod OneVerdict
