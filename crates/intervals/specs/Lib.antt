-- What this crate defines, by file.
-- Intervals: between which numbers a value is; Narrowing: what a public condition says of it in its arms.
-- Ranges: what is checked of indices and divisors, and how many iterations are counted.
-- Work, Limits: the work, and its limit; Evaluated: how many nodes a run evaluates.
-- Loose: loose runs, in which a secret may be anything, and what is safe.
-- Ranged: a body with what is counted for it; Kept: its invariant; Codes: how the logic stores it.
-- Undoing: how what was learned is taken back.
pub mod Limits
pub mod Ranged
pub mod Codes
pub mod Loose
pub mod Intervals
pub mod Narrowing
pub mod Undoing
pub mod Ranges
pub mod Work
pub mod Evaluated
pub mod Kept
pub mod Below
