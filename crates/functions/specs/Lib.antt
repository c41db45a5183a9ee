-- What this crate defines, by folder, one a module. The words of a function are defined in `linked_calls`.
-- function_code: Above has how many bytes a call takes above its frame, counted once for a function.
-- function_text: Functions has the function of a source, or why there is none, AssemblerText and HeaderText its two
--   files, Texts both, Names which names are refused, Library those of C's library, Prefixes what may stand before a
--   name, Linked that it can be called, FaultText how an error is printed.
pub mod function_code
pub mod function_text
pub mod Below
