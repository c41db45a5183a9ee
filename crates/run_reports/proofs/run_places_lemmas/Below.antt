-- What these proofs take from the proofs of the crates below, in one place.
pub use Rattle.rv_machine.proofs.EntryLaws.{entries_of-injective}
pub use Rattle.rv_machine.proofs.RunLaws.{Leads-more, Runs-determined}
pub use Rattle.rv_machine.proofs.Shown.{entries_of-append, entry_count-append}
pub use Rattle.rv_machine.proofs.SystemLaws.{some_of, none_of}
pub use Rattle.rv_machine.proofs.TotalLaws.{IsOwn, goes_own, stops_own, effect_own, Runs-more, step_stops, run_of_state}
pub use Rattle.rv_machine.proofs.OneStepLemmas.{stopped_at, step_made, went_to}
