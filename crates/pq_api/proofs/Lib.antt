-- What is shown of callers that have a queue's one seat, and of the plain pass.
pub mod Replayed
pub mod Places
pub mod Alone
pub mod Keeps
