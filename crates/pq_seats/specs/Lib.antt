-- The rule of a table whose seats make the calls of one history.
pub mod Views
pub mod Letters
pub mod Batches
pub mod Rules
pub mod Posts
pub mod Allowed
pub mod Steps
pub mod Seats
pub mod Passes
pub mod Laws
