-- What this crate defines, by file.
-- Begin has what the registers hold when a run begins, Memory what the memory does; Arguments what arguments are and
--   where they are passed, Objects where objects lie, Word words of which some bits are not known.
-- Ranges has what ranges of memory are to a machine, Stops how the run of a function has stopped.
pub mod Word
pub mod Objects
pub mod Arguments
pub mod Memory
pub mod Begin
pub mod Below
pub mod Ranges
pub mod Stops
