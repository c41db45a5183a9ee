use Rattle.std.proofs.Common.{◌≡◌, ◌++◌, [], ◌∷◌, refl, ap, ap₂, ◌∙◌, option_to_list, drop, take, length, arith}
use Rattle.std.proofs.Common.{length-append, ◌≤◌}
use Rattle.intervals.specs.Undoing.{rewound}
use Rattle.intervals.proofs.UndoingLemmas.{front_kept, one_back}
use Rattle.intervals.proofs.known.KnownBounds.rewind.Goals as goal

pub loop-self-preserved-in-Some : goal.loop-self-preserved-in-Some
loop-self-preserved-in-Some c =
    let mark = c.args.mark in
    let old = c.loop-self.self.changes.items in
    let rest = c.pop.new.self.items in
    let is : old ≡ rest ++ c.in-Some.change ∷ [] = c.pop.ensures.items
    ∙ ap (λ r. rest ++ option_to_list r) c.in-Some.is in
    let few : mark ≤ length rest =
    omega (
      arith,
      c.loop-self-test.true,
      c.len.ensures,
      ap length is,
      length-append rest (c.in-Some.change ∷ []),
    ) in
    record {
      mark = refl;
      bounds = ap₂ (λ cs b. rewound (drop mark cs) b) (ap (λ v. v.items) c.restore.ensures.changes)
          c.restore.ensures.bounds
          ∙ one_back mark old rest c.in-Some.change c.loop-self.self.bounds.items is few
          ∙ c.loop-self.invariant.bounds;
      changes = ap (λ v. take mark v.items) c.restore.ensures.changes
          ∙ front_kept mark old rest c.in-Some.change is few ∙ c.loop-self.invariant.changes;
    }
