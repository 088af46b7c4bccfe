-- What the runs of scripts say.
pub mod Answers
pub mod Drills
pub mod Lanes
pub mod Tracing
