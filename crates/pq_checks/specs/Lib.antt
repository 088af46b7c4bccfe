-- What the checks of queues ask and know.
pub mod Limits
pub mod Checks
pub mod Held
