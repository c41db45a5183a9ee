-- What this crate defines, by file.
-- Reading: the format of an image, what bytes encode, and the first error; Format: formats in general.
-- Limits: magic number, version and greatest length; RuleNames, Text: how errors are named and printed.
-- private: how the reader follows the format, and the bytes that the writer writes; for private contracts alone.
pub mod Limits
pub mod RuleNames
pub mod Format
pub mod Reading
pub mod Text
pub mod private
pub mod Below
