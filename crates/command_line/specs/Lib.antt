-- What this crate defines, by file.
-- Words: which words are the arguments of a request, and which paths of one are apart.
pub mod Words
