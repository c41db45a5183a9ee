-- What these proofs take from the proofs of the crates below, in one place.
pub use Rattle.inline.proofs.Face.{
  GoTogether,
  IsAt,
  IsWithin,
  Stand,
  callable_after,
  callable_declared,
  callable_parameters,
  earlier_within,
  flat_is_typed,
  own_typing,
  same_all,
  same_nodes,
  same_result,
  value_there,
}
pub use Rattle.intervals.proofs.Counting.{enough_all}
pub use Rattle.intervals.proofs.LooseStatements.{AllCounted, AreCounted}
