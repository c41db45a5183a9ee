-- What this crate defines, by file.
-- Widths: the widths of words.
-- Operators: what operators compute on words, masks, and choices by masks.
-- Places: where a source begins, and how a place in it is printed.
-- Counts: counts that stop at the greatest number of 64 bits, as those of failed calls.
pub mod Counts
pub mod Operators
pub mod Places
pub mod Widths
