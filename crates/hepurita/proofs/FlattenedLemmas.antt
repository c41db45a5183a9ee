-- What the last passes find in a source's one body is the judgement on the source.
use Rattle.std.proofs.Common.{◌≡◌, ℕ, List, length, Result, Ok, Err, ap, ◌∙◌}
use Rattle.std.specs.Result.{IfOk, IfErr, OnOk}
use Rattle.hepurita.specs.Below.{IsRefusedByRanges, IsToldByRanges, Profile, program_tree, ProgramTree}
use Rattle.hepurita.specs.Below.{range_violations, Refusal}
use Rattle.intervals.specs.Work.{work_violations}
use Rattle.hepurita.specs.Built.{Judges, accepts, fine, readable}
use Rattle.hepurita.specs.Flattened.{IsFlattened}
use Rattle.hepurita.specs.Told.{IsRefusalOf}
use Rattle.hepurita.specs.declared.flattening.Flattened.{Flattened}
use Rattle.hepurita.proofs.TellingLemmas.{told_of_ranges}
use Rattle.hepurita.proofs.BuiltLemmas.{refusal_of_program, refusal_of_ranges}
use Rattle.hepurita.proofs.GrammaticalExports.{HasGrammaticalExport, grammatical_export, same_violations}

-- two facts beside what was answered
pub ok_beside : {X Y A B : Type 0} (r : Result X Y) (P Q : X → Type 0) → OnOk r A → OnOk r B → IfOk r P
    → (A → B → (x : X) → P x → Q x) → IfOk r Q
ok_beside (Ok x) P Q a b p q = q a b x p
ok_beside (Err y) P Q a b p q = tt

-- two facts of a refusal, together
pub err_both : {X Y : Type 0} (r : Result X Y) (P Q R : Y → Type 0) → IfErr r P → IfErr r Q
    → ((y : Y) → P y → Q y → R y) → IfErr r R
err_both (Ok x) P Q R p q both = tt
err_both (Err y) P Q R p q both = both y p q

module _ (profile : Profile) (source : List ℕ) (made : Flattened) (is : IsFlattened profile source made) where
  abbrev program : ProgramTree
  program = program_tree made.program

  plain : HasGrammaticalExport program
  plain = grammatical_export source program is.read

  pub judged_fine : length (range_violations made.flat) ≡ 0 → length (work_violations made.flat) ≡ 0
      → Judges profile source (accepts program is.before is.export)
  judged_fine in_range in_time =
      let one = same_violations profile program is.before is.export plain is.small in
      readable is.read
      (fine is.small (rw is.body at in_range) (ap (λ vs. length vs) one ∙ (rw is.body at in_time)))

  pub refused_by_ranges : (r : Refusal) → IsRefusedByRanges made.flat r.rule r.place → IsToldByRanges made.flat r
      → IsRefusalOf profile source r
  refused_by_ranges r refused told =
      refusal_of_program profile source program r is.read
      (refusal_of_ranges profile program is.before is.export made.flat r plain is.small is.body refused)
      (told_of_ranges profile program made.flat r plain (is.before, is.export, is.small, is.body) told)
