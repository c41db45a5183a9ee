-- What the crates above take from these proofs, in one place.
pub use Rattle.inline.proofs.Begun.{EntersBody, distinct_none, enters}
pub use Rattle.inline.proofs.CallEnds.{call_means}
pub use Rattle.inline.proofs.CallSizes.{GoTogether, same_all, same_nodes, same_result, some_nodes, value_there}
pub use Rattle.inline.proofs.Called.{Behaves, IsKept, StatementReady, ready_after, ready_declared, ready_later}
pub use Rattle.inline.proofs.Chains.{iterations_keep}
pub use Rattle.inline.proofs.Comes.{Comes, fails, well}
pub use Rattle.inline.proofs.Fitting.{
  bit_fits,
  complement_fits,
  either_fits,
  element_fits,
  number_fits,
  operated_fits,
  prefix_fits,
  some_bit,
  value_fits,
  wrapped_fits,
}
pub use Rattle.inline.proofs.FinePaths.{fine_back, fine_both, fine_front}
pub use Rattle.inline.proofs.FittingBodies.{fits_assigned, fits_declared, one_held, parameters_fit, still_counted}
pub use Rattle.inline.proofs.FlatEnds.{same_end, same_ends}
pub use Rattle.inline.proofs.FlatMeanings.{begins, behaves, flat_keeps_meaning}
pub use Rattle.inline.proofs.FlatPrograms.{flat_is_typed}
pub use Rattle.inline.proofs.FlatSizes.{flat_is_sized}
pub use Rattle.inline.proofs.Linked.{Linked, entry, with_type-other, with_type-same}
pub use Rattle.inline.proofs.Parameters.{all_own, linked_parameters, no_names, shows_arguments}
pub use Rattle.inline.proofs.Passing.{passed_comes}
pub use Rattle.inline.proofs.Procedures.{
  EachCallable,
  IsAt,
  IsCallee,
  IsWithin,
  Stand,
  callable_after,
  callable_declared,
  callable_parameters,
  callable_within,
  earlier_within,
  own_typing,
  variables_within,
}
pub use Rattle.inline.proofs.RowLemmas.{branch_tree, loop_tree}
pub use Rattle.inline.proofs.States.{shows_before, shows_declared, shows_kept, with_value-other, with_value-same}
pub use Rattle.inline.proofs.TableLemmas.{Knows, one_told}
pub use Rattle.inline.proofs.Terms.{Shows, means, word_at}
pub use Rattle.inline.proofs.TypesKept.{new_number, type_kept, types_kept}
