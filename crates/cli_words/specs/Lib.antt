-- What the words of the command line mean.
pub mod Queues
pub mod Words
pub mod Sayings
pub mod Ranges
pub mod Limits
pub mod CommandWords
pub mod Parser
