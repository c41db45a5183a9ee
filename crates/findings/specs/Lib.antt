-- What this crate defines, by file.
-- Noted: what is kept of violations as they come. Order: violations in their order. Passes: passes one after the other.
pub mod Noted
pub mod Order
pub mod Passes
