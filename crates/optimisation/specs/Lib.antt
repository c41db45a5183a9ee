-- What this crate defines, by folder, one a module. What a pass promises is defined in `branch_removal`: Replaced.
-- constants, high_products, iteration_groups: Exact has the one program that a pass makes; how it is made is in the
--   folder private of each: constants has Known, Folding, Powers, Fields, Choice and Simplification, high_products
--   Shapes and Replacing, iteration_groups Choice and Grouping.
-- private: how many nodes expressions have.
pub mod private
pub mod constants
pub mod high_products
pub mod iteration_groups
pub mod Below
