-- What this crate defines, by file.
-- Lines: what members may be, and an object as a line.
-- Objects: the members of an object.
pub mod Lines
pub mod Objects
