pub mod Certified
pub mod GoingOn
pub mod Lines
