-- The heap's own steps are allowed.
pub mod Moves
pub mod MayDraw
pub mod MayRemove
