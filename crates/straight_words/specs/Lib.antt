-- What this crate defines, by folder, one a module. What a pass promises is defined in `branch_removal`: Replaced.
-- element_words, live_words: Exact has the one program that a pass makes; how it is made is in the folder private of
--   each: element_words has Narrowing, Plan and Splitting, live_words Held, Gathering, Choice and Sharing.
--   element_words also has Limits.
-- private: which variables are words of one type, and code that is made anew by a rule.
pub mod private
pub mod element_words
pub mod live_words
pub mod Below
