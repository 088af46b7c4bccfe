-- The search by several workers: what each call of a worker keeps, what two workers have together, and what the last call
-- of all says.
pub mod Marks
pub mod Following
pub mod Turning
pub mod Expanded
pub mod Lesser
pub mod Working
pub mod Growing
pub mod Counting
pub mod Turns
pub mod Room
pub mod Each
pub mod Origins
pub mod Traced
pub mod Runs
pub mod Answers
