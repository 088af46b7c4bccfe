-- The small problems of some tests.
pub mod Picks
pub mod Alike
