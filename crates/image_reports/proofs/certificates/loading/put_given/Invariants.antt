use Rattle.std.proofs.Common.{◌≡◌, ℕ, drop, map, is_some, None}
use Rattle.image_reports.specs.Below.{fault_from}
use Rattle.image_reports.specs.certificates.Given.{rule_of_given}
use Rattle.image_reports.specs.certificates.KnownImage.{with_given}
use Rattle.image_reports.proofs.certificates.loading.put_given.Given as goal

-- what is left leads to the same bytes as all, and has no fault; the data is where it was
abbrev pub invariant-loop-index : goal.invariant-loop-index
invariant-loop-index g l =
    let bytes = g.M.Memory.bytes in
    record {
      rest : with_given l.frame (bytes l.memory) (drop l.index l.slots) (drop l.index l.given)
          ≡ with_given l.frame (bytes l.fn.memory) l.slots l.given;
      data_there : (x : ℕ) → is_some (bytes l.memory x) ≡ is_some (bytes l.fn.memory x);
      faultless : fault_from rule_of_given l.index (drop l.index (map (λ slot. slot.param) l.slots))
          (drop l.index l.given) ≡ None;
    }
