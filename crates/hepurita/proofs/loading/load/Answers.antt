use Rattle.std.proofs.Common.{length, ap, sym, ◌∙◌, arith}
use Rattle.std.proofs.lemmas.List.{length-map}
use Rattle.std.proofs.lemmas.List.Elements.{All-from_recursion}
use Rattle.hepurita.specs.Below.{params_of, Slot, zeros}
use Rattle.hepurita.specs.Bases.{frame_base}
use Rattle.hepurita.specs.Frames.{HoldsSlot}
use Rattle.hepurita.proofs.LoadLemmas.{slots_hold, length-within}
use Rattle.hepurita.proofs.loading.load.Goals as goal

pub put_arguments-requires-clause-count : goal.put_arguments-requires-clause-count
put_arguments-requires-clause-count c =
    let slots = c.args.image.now.slots in
    ap length c.as_slice.ensures ∙ (length-within (params_of c.args.image.now) c.args.args.now c.requires
    ∙ (length-map slots (λ (slot : Slot). slot.param) ∙ ap length (sym c.slots.ensures.slots)))

pub put_arguments-requires-clause-data : goal.put_arguments-requires-clause-data
put_arguments-requires-clause-data c =
    let image = c.args.image.now in
    let allowed = c.slots.ensures.allowed in
    rw (c.slots.ensures.slots, c.in_ok-memory.ensures)
    (All-from_recursion (HoldsSlot frame_base (zeros frame_base image.frame_bytes)) image.slots
    (slots_hold frame_base image.frame_bytes image.slots allowed.slots_inside (omega (arith, allowed.frame_size))))

pub returns-clause-state : goal.returns-clause-state
returns-clause-state c =
    let bytes =
    rw (c.in_ok-memory.ensures, c.slots.ensures.slots, c.as_slice.ensures) at c.put_arguments.ensures in
    λ i. record { pc = c.new.ensures.pc i; regs = c.new.ensures.registers i; bytes = bytes i }
