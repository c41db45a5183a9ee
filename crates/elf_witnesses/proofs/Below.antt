-- What these proofs take from the proofs of the crates below, in one place.
pub use Rattle.rv_machine.proofs.Face.{count-few, entries_of-append, entry_count-append, one-ends, other-ends}
pub use Rattle.rv_machine.proofs.Shown.{after_common}
pub use Rattle.rv_programs.proofs.RunLaws.{run_of_state, Runs-more, Runs-stop, step_stops}
