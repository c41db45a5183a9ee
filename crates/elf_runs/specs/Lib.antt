-- What this crate defines, by file. What registers and memory hold when a run begins is defined in `elf_memory`.
-- Code has the words or halfwords of a program's code.
-- Needs has what has to hold of a request, in which order, and what is told where it does not.
-- Loading has the program that an executable is to the machine, and what is known of the state in which a run begins.
-- Certified has what is answered where such a run is certified, Promised what a certificate says of all runs.
-- Calls has the calls that lead to a step.
-- private is for contracts of private functions alone.
pub mod Needs
pub mod Code
pub mod Below
pub mod Loading
pub mod Certified
pub mod Promised
pub mod Calls
pub mod private
