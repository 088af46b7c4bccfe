-- Proofs that each kind of step keeps the facts of the pool. A rule that stands on the pool names them in its laws, and
-- a law may name only what stands in specs/. No contract cites them.
pub mod Seats
pub mod Words
pub mod Building
pub mod Moving
pub mod Pinning
pub mod Holding
pub mod Framing
pub mod Above
