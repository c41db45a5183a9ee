mod Below
pub mod CodeLines
pub mod LeakLaws
pub mod Pieces
pub mod StopLines
pub mod Written
pub mod PublicListings
