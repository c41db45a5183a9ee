pub mod Certified
pub mod Given
pub mod KnownImage
pub mod Promised
pub mod Texts
