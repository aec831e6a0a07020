pub mod Ranges
pub mod RootTasks
pub mod Searching
pub mod WorstAt
