-- What is shown of the steps of a timers' table.
pub mod Counted
pub mod Known
pub mod Later
pub mod Options
pub mod Reading
pub mod Drawing
pub mod Moving
pub mod Setting
pub mod Cancelling
pub mod Ending
pub mod Deals
pub mod Hands
