-- What these proofs take from the proofs of the crates below, in one place.
pub use Rattle.rv_machine.proofs.Face.{entries_of-append, goes_own, IsOwn, stops_own}
pub use Rattle.rv_programs.proofs.Endings.{ending_own}
pub use Rattle.rv_programs.proofs.Guards.{code_step}
pub use Rattle.rv_programs.proofs.RunLaws.{goes_on-determined, goes_on≢stops, Halts-determined}
pub use Rattle.rv_programs.proofs.Standing.{stands_aligned, stands_in_code}
pub use Rattle.certified_runs.proofs.Amounts.{shifts_agree, some_amounts}
pub use Rattle.certified_runs.proofs.Covering.{itself}
pub use Rattle.certified_runs.proofs.FirstEntry.{entries_in_common}
pub use Rattle.certified_runs.proofs.OneEnd.{one_end}
pub use Rattle.certified_runs.proofs.Runs.{every_run, stops_there}
