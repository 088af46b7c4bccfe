-- What is shown of callers that have a queue's one seat, and of two seats' passes.
pub mod Taking
pub mod Apart
pub mod Filling
pub mod Makings
