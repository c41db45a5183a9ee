-- What this crate defines, by file.
-- Asking: what the words of a command ask of a run of a function.
-- Encodings: what begins at an address of code; EncodingLines: its line, as in a listing.
-- Places: how addresses are written by the symbols. Leaked: the listing of a function's run. Explained: why what an
-- observer sees of a function may differ.
pub mod Below
pub mod Asking
pub mod Encodings
pub mod EncodingLines
pub mod Places
pub mod Leaked
pub mod Explained
