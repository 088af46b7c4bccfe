-- Numbers that the seats of a table draw, each once, and the words that the numbers have.
pub mod Draws
pub mod Tables
