-- Words that the contracts of private functions cite, and no public one: what is kept of a call's arrays, an array's
-- first values, what is made of operands, and what a procedure violates after its name.
pub mod Written
pub mod Made
pub mod Inside
pub mod Arrays
