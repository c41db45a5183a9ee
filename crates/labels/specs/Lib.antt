-- What this crate defines, by file. The rules that it checks are defined in `language`: ExprTyping and Typing.
-- Exports: where the exported procedure is.
-- private: what is kept while checking; for contracts of private functions alone.
pub mod Exports
pub mod private
pub mod Below
