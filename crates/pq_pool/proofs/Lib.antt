-- How the calls of the pool are proved.
pub mod BuilderSteps
pub mod Live
pub mod PassLemmas
pub mod SweepLemmas
pub mod Protecting
pub mod Allowing
pub mod BenchAllows
pub mod BenchRests
