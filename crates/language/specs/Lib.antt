-- What this crate defines, by file.
-- Syntax: Tree has syntax trees as values, Signature the export and its parameters, Limits the greatest counts.
-- Types: Types has scopes and types; ExprTyping the rules on expressions, Typing those on all else, as a table of
--   violations; WellTyped the same as rules of inference; Grammatical what each procedure has whatever its types; Known
--   what is known of procedures by name.
-- Refusals: Rules has the order and names of rules and how a refusal is printed, FirstViolation which of several is
--   named, Sooner how it is kept while checking, Reasons why a rule is violated, WantOfMemory the one refusal without a
--   place.
-- Sizes: Size has nodes, declared bytes and open bodies, Shares the part that has most.
-- Meaning: State has what names hold, Operators and OperatorWords what operators compute, Meaning what expressions,
--   statements, calls and a program mean, by rules of inference, Evaluation the same as a function, Results what it
--   gives.
-- Names: Nearest has the variable that a wrong name is nearest to, Distance how far one text is from another; names and
--   scopes, a folder each, have symbol tables.
-- arguments, a folder: Texts has what strings encode, Within and Faults which arguments are within their types, and the
--   first that is not, Agreement which an observer must not tell apart, PublicResults what of results is public.
-- typing_laws, a folder: the table of violations and the rules of inference agree. Blocks: how statements lie in
--   memory.
pub mod names
pub mod scopes
pub mod arguments
pub mod typing_laws
pub mod Limits
pub mod Rules
pub mod Results
pub mod Tree
pub mod Known
pub mod Signature
pub mod Blocks
pub mod Types
pub mod Distance
pub mod Nearest
pub mod Reasons
pub mod ExprTyping
pub mod Typing
pub mod WellTyped
pub mod State
pub mod Operators
pub mod OperatorWords
pub mod Meaning
pub mod Shares
pub mod Size
pub mod Evaluation
pub mod WantOfMemory
pub mod FirstViolation
pub mod Sooner
pub mod Grammatical
