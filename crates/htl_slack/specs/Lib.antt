pub mod RootTasks
pub mod Slack
