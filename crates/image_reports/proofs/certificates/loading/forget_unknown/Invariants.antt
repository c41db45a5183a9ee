use Rattle.std.proofs.Common.{◌≡◌, ℕ, drop, is_some}
use Rattle.image_reports.specs.certificates.KnownImage.{marks_with_given}
use Rattle.image_reports.proofs.certificates.loading.forget_unknown.Given as goal

-- what is left leads to the same known bytes as all, and nothing else has changed
abbrev pub invariant-loop-index : goal.invariant-loop-index
invariant-loop-index g l =
    let bytes = g.M.Memory.bytes in
    record {
      rest : marks_with_given l.frame (bytes l.known.marks) (drop l.index l.slots)
          (drop l.index l.given) ≡ marks_with_given l.frame (bytes l.fn.known.marks) l.slots l.given;
      data_there : (x : ℕ) → is_some (bytes l.known.marks x) ≡ is_some (bytes l.fn.known.marks x);
      registers : l.known.registers ≡ l.fn.known.registers;
      shifts : l.known.shifts ≡ l.fn.known.shifts;
    }
