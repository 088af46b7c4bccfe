-- What a knapsack's plans, order, tree and sums are.
pub mod Plans
pub mod Verdicts
pub mod Order
pub mod Branching
pub mod Decisions
pub mod Sums
pub mod OrderAndSums
pub mod Walking
pub mod TreeLawsHold
