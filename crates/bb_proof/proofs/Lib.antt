-- Lemmas of proofs and of the walks that make and check them.
pub mod Accepted
pub mod Sound
pub mod Complete
pub mod Canonical
pub mod Bad
pub mod Worked
pub mod ProofLines
pub mod ProofTexts
pub mod WrittenProofs
