pub mod Instrs
pub mod Lines
pub mod Listing
pub mod Names
pub mod Shows
