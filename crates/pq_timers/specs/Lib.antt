-- Timers that are armed, cancelled and fired by several callers, each of which ends once.
pub mod Limits
pub mod Words
pub mod WordRules
