pub mod Calling
pub mod Names
pub mod OneText
pub mod Rows
pub mod SameWords
