-- What this crate defines, by file.
-- Callable: the linked call and its theorem; Convention, Calls, Called: the calling convention, what a caller sets up,
--   and what a call leaves.
-- FunctionCode, Sections: the words of a function for C, and the same in sections.
-- Paces: how much the loops of such code do at once.
-- Written: which registers the instructions of words write.
-- Words, Copies, Zeros, Cleared: its pieces: word arguments and results, arrays, the frame zeroed, registers cleared.
-- Does: what a piece of code does wherever it is; Passing, Meant: arguments as they are passed, and what raw words
--   mean; Stretches: ranges of bytes.
pub mod Called
pub mod Callable
pub mod Calls
pub mod Cleared
pub mod Convention
pub mod Copies
pub mod Does
pub mod FunctionCode
pub mod Meant
pub mod Paces
pub mod Passing
pub mod Sections
pub mod Stretches
pub mod Words
pub mod Written
pub mod Zeros
pub mod Below
