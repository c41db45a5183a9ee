-- What this crate defines, by file.
-- Compared has where what two runs show differs; Witnessed two runs that differ in what is secret alone, and of which
--   an observer sees not the same; Drawn what is secret in the runs of each try.
-- private is for contracts of private functions alone.
pub mod Below
pub mod Compared
pub mod Witnessed
pub mod Drawn
pub mod private
