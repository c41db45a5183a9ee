use Rattle.std.proofs.Common.{◌≡◌, ℕ, ◌++◌, All, drop, map}
use Rattle.hepurita.specs.Below.{arrays_in, ByteMap}
use Rattle.hepurita.specs.Frames.{HasSpace, elements_in}
use Rattle.hepurita.proofs.results.result_space.Given as goal

-- space for the arrays so far, and the slots that are left
abbrev pub invariant-loop-slot : goal.invariant-loop-slot
invariant-loop-slot l = record {
  each : All (HasSpace l.image.frame_bytes) l.each.items;
  in_order : (frame : ℕ) (bytes : ByteMap) → map (λ one. elements_in frame bytes one.slot) l.each.items
      ++ arrays_in frame bytes (drop l.slot-index l.slot-items) ≡ arrays_in frame bytes l.image.slots;
}
