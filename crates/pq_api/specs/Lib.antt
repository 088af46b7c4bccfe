-- What the interface of a queue says.
pub mod Limits
pub mod Answers
pub mod Closing
pub mod Plain
pub mod Laws
