-- The pool of chunks: its words, what they keep, and what its calls do.
pub mod Limits
pub mod Layout
pub mod States
pub mod Facts
pub mod Views
pub mod Builds
pub mod Protection
pub mod Parts
pub mod PoolLaws
pub mod Passes
pub mod Steps
pub mod Sweeps
pub mod SweepSteps
pub mod Bench
pub mod FactsStay
pub mod BenchLawsHold
