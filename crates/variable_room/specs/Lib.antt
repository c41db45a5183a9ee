-- What this crate defines, by folder, one a module. What a pass promises is defined in `branch_removal`: Replaced.
-- number_words, needed_variables: Exact has the one program that a pass makes; how it is made is in the folder private
--   of each: number_words has Uses, Wording and Plan, and needed_variables has Named.
-- set_first: Order has which code sets each variable before it reads it, Starts what that means for where it begins.
-- set_whole: Watching has which elements of an array code sets before it reads them, Whole which arrays it sets whole,
--   and what that means for its arguments.
pub mod needed_variables
pub mod number_words
pub mod set_first
pub mod set_whole
pub mod Below
