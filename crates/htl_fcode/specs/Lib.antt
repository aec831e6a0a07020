pub mod Arguments
pub mod Stacks
