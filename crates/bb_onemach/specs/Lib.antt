-- What the definitions are named by.
pub mod Visits
pub mod Thresholds
pub mod Bounds
pub mod Branching
pub mod Worked
pub mod Working
pub mod TreeLawsHold
