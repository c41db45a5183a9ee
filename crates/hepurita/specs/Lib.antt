-- What this crate defines, by file.
-- Built: what `build` answers; Flattened: a source up to the passes on size; Told: the refusal of a source, and what it
--   tells.
-- Meant: what a program means on arguments; Compiled: what is promised of a compiled image; Linked: of its body in
--   other code; Uncut, CutOff: of runs that no recorder cuts short, and of runs that are cut off.
-- Listed: all that a source violates.
-- Executed, Paired, Answers: what `execute` and `pair` answer; Text: how errors of a run are printed.
-- Bases: the standard base addresses; Frames: where data is in a frame.
-- grammar_laws: heads of nodes, for laws on the grammar; source_work: work as a sum over the source.
pub mod Bases
pub mod Frames
pub mod Meant
pub mod Linked
pub mod Compiled
pub mod Executed
pub mod Paired
pub mod Built
pub mod Told
pub mod Flattened
pub mod Answers
pub mod Text
pub mod CutOff
pub mod Uncut
pub mod Below
pub mod grammar_laws
pub mod source_work
pub mod Listed
