-- What this crate defines, by file.
-- CodeFor: code for straight code or for what replaces it; Exact: the one plain and the one optimised image.
-- Blank: the words of a frame that have to be zeros where code begins; Needs: all that code needs of its frame there;
--   Begun: a body in a frame of any bytes.
pub mod Blank
pub mod Needs
pub mod Begun
pub mod Exact
pub mod CodeFor
pub mod Below
