-- Lines that went out, and the next one.
use Rattle.std.proofs.Common.{◌≡◌, ℕ, ◌+◌, ◌*◌, ◌<◌, ◌≤◌, ◌⊎◌, zero, suc, Bool, true, false, List, ◌++◌, length, take}
use Rattle.std.proofs.Common.{IsTrue, length-append, append_assoc, append-nil, inl, inr, refl, sym, ap, ◌∙◌, arith}
use Rattle.run_reports.specs.progress.GoingOn.{GoesOn, Reaches, HasLines, IsTold}
use Rattle.run_reports.specs.Below.{MachineCode, Collected, GainsPart, Leads, Observation, one_more, State}
use Rattle.std.proofs.Math.Seq.{take-append-add}
use Rattle.std.proofs.lemmas.List.{take-append-le}
use Rattle.run_reports.specs.progress.Lines.{steps_a_line, progress_line, progress_lines, WentOut, AreTold}

-- a part of some bytes is one of more bytes
part_of_more : {before after : List ℕ} (piece rest : List ℕ) → GainsPart before after piece
    → GainsPart before after (piece ++ rest)
part_of_more piece rest part = record {
  count = part.count;
  some_left = omega (arith, length-append piece rest);
  added = rw (take-append-le part.count piece rest (omega arith)) part.added;
}

-- a part of what comes after these bytes
part_behind : {before now after : List ℕ} (written piece : List ℕ) → now ≡ before ++ written
    → GainsPart now after piece → GainsPart before after (written ++ piece)
part_behind {before} written piece so_far part = record {
  count = length written + part.count;
  some_left = omega (arith, length-append written piece);
  added = rw (part.added, so_far, take-append-add) (append_assoc before written (take part.count piece));
}

-- no line has gone out yet
pub none_yet : (whole : Bool) (count : ℕ) (now : Collected) → IsTrue whole → count ≡ 0 → WentOut whole count now now
unfolding progress_lines
none_yet true zero now is none = (sym (append-nil now.bytes), refl)
none_yet true (suc count) now is none = cc
none_yet false count now is none = cc

-- the next line, where all went out and it does
pub told_next : (count : ℕ) (before now after : Collected) → WentOut true count before now
    → after.bytes ≡ now.bytes ++ progress_line (suc count * steps_a_line) → after.failures ≡ now.failures
    → WentOut true (suc count) before after
unfolding progress_lines
told_next count before now after so_far line calm = (
  rw (line, so_far.0) (append_assoc before.bytes (progress_lines count) (progress_line (suc count * steps_a_line))),
  calm ∙ so_far.1,
)

-- where it does not
pub cut_next : (count : ℕ) (before now after : Collected) → WentOut true count before now
    → GainsPart now.bytes after.bytes (progress_line (suc count * steps_a_line))
    → after.failures ≡ one_more now.failures → WentOut false (suc count) before after
unfolding progress_lines
cut_next count before now after so_far line failed =
    (part_behind (progress_lines count) _ so_far.0 line, failed ∙ ap one_more so_far.1)

-- and where a call failed before
pub still_cut : (count : ℕ) (before after : Collected) → WentOut false count before after
    → WentOut false (suc count) before after
unfolding progress_lines
still_cut count before after so_far = (part_of_more (progress_lines count) _ so_far.0, so_far.1)

-- the lines of a run
pub all_told : (whole : Bool) (count : ℕ) (before after : Collected) → WentOut whole count before after
    → AreTold count before after
all_told true count before after went = inl went
all_told false count before after went = inr went

-- so many pieces were made, and the run does not go on after one more
pub lines_of_run : {code : MachineCode} {budget left count : ℕ} {s t : State}
    → (seen : List Observation) × Leads code (count * steps_a_line) s seen t → count * steps_a_line + left ≡ budget
    → (count ≡ 0) ⊎ (0 < left)
    → ((seen : List Observation) (u : State) → Leads code (count * steps_a_line + steps_a_line) s seen u → ⊥)
    → HasLines (GoesOn code budget s) count
lines_of_run {count = count} {t = t} led made more over = record {
  reached = elim more [ inl none ↦ inl none | inr some ↦ inr (omega (arith, made, some), (led.0, t, led.1)) ];
  no_more = λ on.
      let next : suc count * steps_a_line ≡ count * steps_a_line + steps_a_line = omega arith in
      over on.1.0 on.1.1 (rw next at on.1.2);
}

-- so many pieces were made, and at most one more may be
pub lines_at_end : {code : MachineCode} {budget left count : ℕ} {s t : State}
    → (seen : List Observation) × Leads code (count * steps_a_line) s seen t → count * steps_a_line + left ≡ budget
    → (count ≡ 0) ⊎ (0 < left) → left ≤ steps_a_line → HasLines (GoesOn code budget s) count
lines_at_end {count = count} {t = t} led made more last = record {
  reached = elim more [ inl none ↦ inl none | inr some ↦ inr (omega (arith, made, some), (led.0, t, led.1)) ];
  no_more = λ on. omega (arith, made, last, on.0);
}

-- no line at all
pub none_told : (GoesOnAfter : ℕ → Type 0) (now : Collected) → IsTold Reaches GoesOnAfter now now
none_told GoesOnAfter now = (0, inl refl, inl (none_yet true zero now refl refl))

-- a run that has so many lines reaches them
pub reaches : {GoesOnAfter : ℕ → Type 0} {before after : Collected} → IsTold HasLines GoesOnAfter before after
    → IsTold Reaches GoesOnAfter before after
reaches told = (told.0, told.1.reached, told.2)
