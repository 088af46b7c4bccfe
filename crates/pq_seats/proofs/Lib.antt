-- What is shown of the rule.
pub mod Lists
pub mod Marks
pub mod Lengths
pub mod Keeps
pub mod Locking
pub mod Waiting
pub mod Drawing
pub mod Leaving
pub mod Dealing
pub mod Rows
pub mod Owning
pub mod Resting
pub mod Helping
pub mod SendingBack
pub mod Bounds
