-- What this crate defines, by file.
-- Spelling: how pieces of a source are spelled; Tokens: its tokens, each the longest that matches, and how they end;
--   Lexeme: tokens as values.
-- Nesting: nesting counts; Nested: what the code keeps of them; Limits: the greatest counts of a source.
-- Operators: the operators that signs are, and how strongly they bind.
-- private: how the lexer cuts a text; for contracts of private functions alone.
pub mod Limits
pub mod Lexeme
pub mod Spelling
pub mod Tokens
pub mod Nesting
pub mod Nested
pub mod Operators
pub mod private
pub mod Below
