-- What the crates above take from these proofs, in one place.
pub use Rattle.rv_machine.proofs.Alone.{alone, shown_the_same}
pub use Rattle.rv_machine.proofs.ByteLaws.{
  is_inside,
  is_outside,
  is_some-with_number,
  number_at-suc,
  number_at-with_number,
  number_at-zero,
  number_at_apart,
  number_at_same,
  place,
  with_byte_other,
  with_byte_same,
  with_number-suc,
  with_number-zero,
  with_number_above,
  with_number_below,
  with_number_inside,
  with_number_outside,
}
pub use Rattle.rv_machine.proofs.EntryLaws.{differ-apart, first-unique}
pub use Rattle.rv_machine.proofs.Halting.{keeps_inside, shown_alone, stopped_alone}
pub use Rattle.rv_machine.proofs.Locality.{IsSameStep, both_go, step_same}
pub use Rattle.rv_machine.proofs.Pairs.{count-few, one-ends, other-ends}
pub use Rattle.rv_machine.proofs.Progressing.{InStep, differ_after, same_after}
pub use Rattle.rv_machine.proofs.RunLaws.{
  Halts-after,
  Halts-determined,
  Leads-append,
  Leads-more,
  Ran-beginning,
  Ran-determined,
  Ran-halts,
  Runs-determined,
  Step-determined,
  goes_on-determined,
  goes_on≢stops,
  no_longer,
}
pub use Rattle.rv_machine.proofs.Shown.{entries_of-append, entry_count-append, nothing_shown, something_shown}
pub use Rattle.rv_machine.proofs.SystemLaws.{MemberStep-determined}
pub use Rattle.rv_machine.proofs.TotalLaws.{
  IsOwn,
  Runs-more,
  Runs-stop,
  effect_own,
  goes_own,
  run_of_state,
  stops_own,
  step_of_state,
  step_stops,
  step_within_budget,
}
pub use Rattle.rv_machine.proofs.OneStepLemmas.{stopped_at, step_made, went_to}
pub use Rattle.rv_machine.proofs.InstructionSteps.{
  branch_leads,
  branch_passes,
  divide_leads,
  ecall_halts,
  immediate_leads,
  jump_done,
  jump_leads,
  load_leads,
  moved_to-bytes,
  moved_to-pc,
  moved_to-regs,
  multiply_leads,
  register_leads,
  shift_leads,
  store_leads,
  step_of,
  upper_leads,
  with_link-bytes,
  with_link-pc,
  with_link-regs,
  with_value-bytes,
  with_value-pc,
  with_value-regs,
}
