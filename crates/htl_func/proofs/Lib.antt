pub mod Causes
pub mod CodeMeans
mod Examples
