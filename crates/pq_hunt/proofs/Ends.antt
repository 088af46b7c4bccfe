-- The opening of a heap, and its end.
pub mod Opening
pub mod Ending
