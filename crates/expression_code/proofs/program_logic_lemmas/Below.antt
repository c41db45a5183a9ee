-- What these proofs take from the proofs of the crates below, in one place.
pub use Rattle.rv_machine.proofs.Face.{Leads-append, branch_leads, branch_passes, immediate_leads, is_some-with_number}
pub use Rattle.rv_machine.proofs.Face.{jump_leads, load_leads, moved_to-bytes, moved_to-pc, moved_to-regs}
pub use Rattle.rv_machine.proofs.Face.{register_leads, shift_leads, store_leads, upper_leads, with_link-bytes}
pub use Rattle.rv_machine.proofs.Face.{with_link-pc, with_link-regs}
