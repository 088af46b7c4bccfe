-- The rooms of the definitions.
pub mod Limits
pub mod Several
pub mod Knapsack
pub mod Shop
pub mod Plans
pub mod Script
pub mod Generator
