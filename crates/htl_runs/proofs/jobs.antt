pub mod PositionRecords
pub mod WorkRecords
pub mod FrameLines
pub mod JobRounds
pub mod OneRecord
pub mod JobTimes
pub mod Accepted
mod LineExamples
