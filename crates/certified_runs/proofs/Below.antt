-- What these proofs take from the proofs of the crates below, in one place.
pub use Rattle.rv_machine.proofs.Face.{
  IsOwn,
  count-few,
  entries_of-append,
  entry_count-append,
  goes_own,
  is_inside,
  is_outside,
  is_some-with_number,
  place,
  stops_own,
  with_number_inside,
  with_number_outside,
}
pub use Rattle.rv_programs.proofs.CodeSteps.{CodeStep-determined}
pub use Rattle.rv_programs.proofs.Endings.{ending_own}
pub use Rattle.rv_programs.proofs.Guards.{code_step, executed, stops_so}
pub use Rattle.rv_programs.proofs.RunLaws.{
  Runs-determined,
  Runs-more,
  Runs-stop,
  Step-determined,
  goes_on-determined,
  goes_on≢stops,
  run_of_state,
  step_of_state,
  step_stops,
}
pub use Rattle.rv_programs.proofs.Standing.{one_stands, stands_aligned, stands_in_code, stands_in_range}
