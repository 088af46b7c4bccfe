-- What each step of the mound keeps of its facts.
pub mod Lists
pub mod Sums
pub mod Mounds
pub mod Least
pub mod Counts
pub mod Events
pub mod Links
pub mod FreeCells
pub mod Moves
pub mod Picking
pub mod CellStores
pub mod Draws
pub mod MayDraw
