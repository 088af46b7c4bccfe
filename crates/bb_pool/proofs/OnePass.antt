-- The search with one caller, by the fields of its state: what each call of the queue does to it, and each turn.
pub mod Places
pub mod Turns
pub mod Putting
pub mod Calls
