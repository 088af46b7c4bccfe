-- What the tests owe the calls that they make.
pub mod Alike
