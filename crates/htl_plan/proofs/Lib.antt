pub mod ListByList
pub mod PlanExamples
pub mod PlanFrame
pub mod PlanWalk
pub mod SelectionEntries
pub mod SelectionFields
pub mod SelectionReading
pub mod StayingJobs
pub mod StayingPath
pub mod ToldRecords
mod Words
