pub mod Adding
pub mod Answering
pub mod Begun
mod Examples
pub mod Finishing
pub mod Flags
pub mod Going
pub mod Holding
pub mod Joined
pub mod Lengths
pub mod PathRuns
pub mod RoundRecords
pub mod Timely
pub mod Words
