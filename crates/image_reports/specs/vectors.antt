pub mod Lines
pub mod Views
pub mod Texts
pub mod Spelled
pub mod Verdicts
pub mod FaultText
