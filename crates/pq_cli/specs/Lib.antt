-- What the commands and the statuses of the program mean.
pub mod Statuses
pub mod Texts
pub mod Drilling
pub mod Answers
pub mod Using
pub mod Problems
pub mod Streams
pub mod Work
pub mod Duties
pub mod Auditing
pub mod Tracing
pub mod CommandLimits
pub mod Proving
pub mod Commands
pub mod Refusals
pub mod Reports
pub mod Runs
