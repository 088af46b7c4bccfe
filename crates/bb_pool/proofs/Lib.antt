-- Proofs of the search, from lists and costs up to its turns.
pub mod Members
pub mod Totals
pub mod Costs
pub mod Keys
pub mod Names
pub mod Needs
pub mod Counts
pub mod Searches
pub mod Bounds
pub mod Ending
pub mod OnePass
pub mod Numbers
pub mod Several
