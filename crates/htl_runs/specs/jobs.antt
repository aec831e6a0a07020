pub mod JobTimes
pub mod Laws
