-- Words that the contracts of private functions cite, and no public one: which expressions are the upper word of a
-- product, and the code in which these are operators.
pub mod Shapes
pub mod Replacing
