-- How the calls of the spot are proved.
pub mod Allows
pub mod Opening
pub mod Steps
pub mod Ending
