-- What this crate defines, by file.
-- Operations: the instruction table: fixed fields, names, and what operations compute.
-- Words: the word of each instruction, and the ranges of its fields.
-- Compressed: the 16-bit instructions, their halfwords, and what they mean.
-- Text, FieldText: the assembly text of instructions, and of their operands.
-- Signed: two's complement.
-- private: how a word and a halfword are read; for contracts of private functions alone.
pub mod Operations
pub mod Words
pub mod Compressed
pub mod Text
pub mod Signed
pub mod FieldText
pub mod private
