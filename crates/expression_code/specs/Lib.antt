-- What this crate defines, by file.
-- Layout: where words are in the frame; Allocation: homes, and temporaries in registers; Registers: their numbers.
-- TermCode: the instructions of slots, numbers, operators (`row_of`) and expressions; NumberRows: immediates.
-- NearElements: elements at known indices; FrameBytes: those that are joined to words.
-- Computed: what the machine does on them; Inside: accesses that stay inside the frame.
-- image_fields: the fields of an image, and its limits. program_logic: the logic of machine code.
pub mod program_logic
pub mod image_fields
pub mod Layout
pub mod Registers
pub mod Allocation
pub mod NumberRows
pub mod NearElements
pub mod FrameBytes
pub mod TermCode
pub mod Inside
pub mod Computed
pub mod Below
