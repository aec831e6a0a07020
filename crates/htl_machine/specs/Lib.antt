pub mod Counts
pub mod Doing
pub mod Opening
pub mod Parts
pub mod Printing
pub mod Quiet
pub mod Calls
pub mod Fitted
pub mod Passing
pub mod Numbering
pub mod StandingList
pub mod Beginning
pub mod Instant
pub mod Asking
pub mod Marks
pub mod Noting
pub mod Waiting
mod Common
