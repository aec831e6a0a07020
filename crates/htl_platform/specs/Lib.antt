pub mod Answers
pub mod Applied
pub mod Entries
pub mod Faults
pub mod Keys
pub mod Platforms
