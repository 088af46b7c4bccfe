-- What is shown of runs of scripts, and of the history that comes of them.
pub mod Each
pub mod Making
pub mod Joining
pub mod Scripts
pub mod Placing
pub mod Ran
pub mod Drills
pub mod MadeDrills
