-- What each of the heap's own steps keeps of its rule.
pub mod Locking
pub mod Stores
pub mod Looks
pub mod Draws
pub mod InsertDraws
pub mod RemovalDraws
pub mod Leaves
