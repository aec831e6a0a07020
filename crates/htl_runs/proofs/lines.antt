pub mod Joined
pub mod StandingRecords
pub mod LineBytes
pub mod JobLines
pub mod RecordTimes
pub mod LoadedRecords
pub mod Examples
pub mod PutLines
