-- What is shown of draws, of sums over views, and of the words of numbers.
pub mod Sums
pub mod Counts
pub mod Tiles
pub mod Tables
