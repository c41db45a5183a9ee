-- What this crate defines, by file.
-- Flat: the one body with numbered variables.
-- Numbering: how names become numbers, and how a call becomes the called body.
-- FlatMeaning: what such a body means; Path: the path of a run, its first error, and what an observer sees of it.
-- FlatTyping: its types; Fitting: values within them; FlatSize: its sizes; Kept: all that it keeps, its invariant.
-- Limits: the greatest count; Counts and Measured: how procedures are measured; Callees: those that may be called.
-- Codes: how the logic stores such a body.
pub mod Limits
pub mod Flat
pub mod Codes
pub mod Numbering
pub mod Callees
pub mod Path
pub mod FlatMeaning
pub mod FlatTyping
pub mod Fitting
pub mod FlatSize
pub mod Counts
pub mod Measured
pub mod Kept
pub mod Below
