pub mod Drawn
pub mod Telling
