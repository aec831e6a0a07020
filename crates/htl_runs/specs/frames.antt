pub mod LastPositions
pub mod JobsSoFar
pub mod FrameSteps
pub mod FramePlaces
pub mod RunFrames
pub mod RoundStarts
