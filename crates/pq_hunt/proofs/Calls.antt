-- What a seat holds in the course of a call.
pub mod Sitting
pub mod Leafing
pub mod Pairs
pub mod Turning
pub mod Rooting
pub mod Sifted
pub mod Removing
