-- What each part of the rule keeps under a step that leaves its words and its part of the views.
pub mod Sums
pub mod Fronts
pub mod Chains
pub mod Placing
pub mod Filling
pub mod Notes
pub mod Offering
pub mod Whole
pub mod Taking
