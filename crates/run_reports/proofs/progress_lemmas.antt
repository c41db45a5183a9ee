pub mod Followed
pub mod KnownPieces
pub mod Pieces
pub mod Together
pub mod Told
