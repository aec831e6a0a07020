pub mod Operators
pub mod Parses
pub mod Runs
