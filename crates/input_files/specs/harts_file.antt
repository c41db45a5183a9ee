pub mod private
pub mod Text
pub mod Lines
pub mod Plans
pub mod Faults
pub mod Jobs
