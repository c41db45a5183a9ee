pub mod Bytes
pub mod Texts
pub mod Codes
pub mod Images
pub mod Spellings
pub mod Loop
pub mod Lengths
pub mod SlotEnds
