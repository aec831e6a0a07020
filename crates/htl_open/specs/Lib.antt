pub mod Files
pub mod Lines
pub mod Objects
pub mod Stops
