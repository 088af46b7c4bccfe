-- What proofs and their texts are, and what is found of proofs.
pub mod Tokens
pub mod Verdicts
pub mod Texts
