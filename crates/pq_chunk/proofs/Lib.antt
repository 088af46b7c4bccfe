-- How the steps keep the rule.
pub mod Fields
pub mod Lives
pub mod Counting
pub mod FrontSteps
pub mod Draws
pub mod Starting
pub mod Walking
pub mod CountSteps
