-- What this crate defines, by file.
-- Followed: what is promised of the code for straight code, loaded as an image; Anywhere: the same at any address;
--   Exact: that it is one image. Loaded: the state that a run begins in; Bases: where code and frame may be.
-- private: the instructions of statements; for contracts of private functions alone.
pub mod private
pub mod Loaded
pub mod Bases
pub mod Anywhere
pub mod Followed
pub mod Exact
pub mod Below
