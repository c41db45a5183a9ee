-- What these proofs take from the proofs of the crates below, in one place.
pub use Rattle.language.proofs.arguments_lemmas.FaultLemmas.{
  IsWithin-from_rule_of,
  fault_at-None,
  fault_by-None,
  fault_by-same,
  fault_by-shown,
  fault_from-left,
  fault_from-next,
}
pub use Rattle.language.proofs.arguments_lemmas.ReadLemmas.{fault_by-map, map-more}
pub use Rattle.rv_programs.proofs.Images.{image_runs}
pub use Rattle.certified_runs.proofs.Amounts.{some_amounts, shifts_agree}
pub use Rattle.certified_runs.proofs.Covering.{itself}
pub use Rattle.certified_runs.proofs.FirstEntry.{entries_in_common}
pub use Rattle.certified_runs.proofs.OneEnd.{one_end}
pub use Rattle.certified_runs.proofs.Runs.{every_run}
pub use Rattle.hepurita.proofs.DataLemmas.{HoldsSlot-same, bytes_within, is_some-with_argument}
pub use Rattle.hepurita.proofs.ElementLemmas.{number_there}
pub use Rattle.hepurita.proofs.LoadLemmas.{no_slot, slots_hold}
pub use Rattle.rv_machine.proofs.Face.{
  differ-apart,
  with_byte_other,
  with_byte_same,
  with_number-suc,
  with_number-zero,
  with_number_above,
  with_number_below,
}
