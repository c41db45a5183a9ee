-- What this crate defines, by file.
-- Reading: which fault bytes have, and the program that they spell where they have none.
-- Numbers, Checks: the numbers in a file, and the first check that does not hold.
-- Header, Segments, Symbols: what is checked in the file header, in the program headers and in the symbol table, and
-- what is read from them.
-- Lookup: which symbol a name means, and which function an address lies in.
-- RuleNames, Text: how faults are named and printed.
-- Layout: segments that lie apart, for a law.
pub mod Layout
pub mod Numbers
pub mod Checks
pub mod Header
pub mod Segments
pub mod Symbols
pub mod Lookup
pub mod Reading
pub mod RuleNames
pub mod Text
