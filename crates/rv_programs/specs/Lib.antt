-- What this crate defines, by file.
-- Code: words and halfwords of code, and the instructions that stand in them; Fetching: one that was looked up.
-- Programs: what a program is, and its steps; Runs: whole runs of it, and what they show.
-- Parcels: halfwords as they stand before a run.
-- Loaded: the program that segments of code and ranges that may be stored to make.
-- private: what the code of a step goes by; for contracts of private functions alone.
pub mod Below
pub mod Code
pub mod Fetching
pub mod Parcels
pub mod Programs
pub mod Runs
pub mod Loaded
pub mod private
