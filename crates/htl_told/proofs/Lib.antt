pub mod FrameRoots
pub mod RecordsNoLater
pub mod LinesNoLater
mod Examples
