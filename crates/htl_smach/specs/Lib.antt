pub mod Adding
pub mod Fields
pub mod Order
pub mod PathRuns
pub mod Rounds
pub mod States
pub mod Steps
pub mod Upcoming
