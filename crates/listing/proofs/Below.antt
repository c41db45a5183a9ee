-- What these proofs take from the proofs of the crates below, in one place.
pub use Rattle.rv_machine.proofs.Face.{entries_of-append, Runs-determined}
pub use Rattle.rv_programs.proofs.Images.{of_image_runs}
pub use Rattle.rv_programs.proofs.RunLaws.{Leads-more, run_of_state, Runs-more, step_stops}
