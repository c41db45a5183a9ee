pub mod Rotation
pub mod Selection
pub mod WidthLemmas
