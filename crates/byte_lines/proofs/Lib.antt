pub mod LineLemmas
pub mod LineNext
pub mod LineSteps
