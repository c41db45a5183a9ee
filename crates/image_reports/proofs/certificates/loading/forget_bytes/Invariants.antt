use Rattle.std.proofs.Common.{◌≡◌, ℕ, is_some}
use Rattle.image_reports.specs.certificates.KnownImage.{with_unknown}
use Rattle.image_reports.proofs.certificates.loading.forget_bytes.Given as goal

-- the bytes so far are unknown, and nothing else has changed
abbrev pub invariant-loop-index : goal.invariant-loop-index
invariant-loop-index g l =
    let bytes = g.M.Memory.bytes in
    record {
      unknown : bytes l.known.marks ≡ with_unknown (bytes l.fn.known.marks) l.index l.at;
      data_there : (x : ℕ) → is_some (bytes l.known.marks x) ≡ is_some (bytes l.fn.known.marks x);
      registers : l.known.registers ≡ l.fn.known.registers;
      shifts : l.known.shifts ≡ l.fn.known.shifts;
    }
