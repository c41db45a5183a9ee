-- What the module defines, by file.
-- Fields: the fields of an image, and which values they may have; Limits: the greatest counts.
pub mod Limits
pub mod Fields
