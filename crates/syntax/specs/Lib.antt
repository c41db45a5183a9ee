-- What this crate defines, by file.
-- Grammar: the grammar, one constructor a rule; Cases: the same without trees; Beginning: the prefixes of programs.
-- Reading: the answer to a source: its tree or the first error.
-- private: a machine that follows the parser token by token; for contracts of private functions alone.
pub mod Grammar
pub mod Cases
pub mod Beginning
pub mod Reading
pub mod private
pub mod Below
