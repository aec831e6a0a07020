pub mod Found
pub mod GivenFiles
pub mod OneObject
pub mod Putting
