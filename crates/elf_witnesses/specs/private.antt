pub mod Loaded
pub mod ComparedRuns
