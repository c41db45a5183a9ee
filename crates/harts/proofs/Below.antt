-- What these proofs take from the proofs of the crates below, in one place.
pub use Rattle.hepurita.proofs.AnswerLemmas.{same_fields}
pub use Rattle.hepurita.proofs.DataLemmas.{
  HoldsSlot-same,
  argument_extent,
  bytes_within,
  is_some-with_argument,
  zeros_there,
}
pub use Rattle.hepurita.proofs.LoadLemmas.{length-within, slots_held}
pub use Rattle.rv_machine.proofs.Face.{
  MemberStep-determined,
  alone,
  keeps_inside,
  number_at_same,
  shown_alone,
  shown_the_same,
  stopped_alone,
  with_byte_other,
  with_byte_same,
  with_number-suc,
  with_number-zero,
}
