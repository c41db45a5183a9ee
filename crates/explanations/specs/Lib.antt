-- What this crate defines, by file and folder.
-- Table, Listed, Text: the explanations, which codes have one, and how one is printed.
-- source_excerpts: the line of a source with a place marked. call_places: the procedure of a place, and where it is
--   called.
-- expected_tokens: which kinds of tokens may follow a prefix of a source.
-- habits: which habit of C stands at a place, by the tokens around it, and what to write instead.
-- refusal_details: what is said of a refusal beside its rule: Details has all of it, WhyLines what the evidence of a
--   violation says, TypeLines, SizeLines and ExpectedLines its parts. explained_refusals: all that is printed below
--   one.
-- private: whether the names in the table are those of the rules; what is found of a code in a group of its rows.
pub mod source_excerpts
pub mod expected_tokens
pub mod call_places
pub mod habits
pub mod refusal_details
pub mod explained_refusals
pub mod Listed
pub mod Text
pub mod Table
pub mod private
pub mod Below
