-- What steps keep of a tree's order, and of guards.
pub mod Ancestors
pub mod Orders
pub mod Written
pub mod Guarded
pub mod Tables
pub mod GuardLists
pub mod Freed
pub mod Keeping
pub mod Allowing
