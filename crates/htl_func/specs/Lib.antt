pub mod Compiled
pub mod Expressions
pub mod Faults
