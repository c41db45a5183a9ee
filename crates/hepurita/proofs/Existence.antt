-- Each source has a judgement.
use Rattle.std.proofs.Common.{◌≡◌, ℕ, List, [], length, None, Some, ⊎_elim, refl}
use Rattle.hepurita.proofs.Below.{Export, has_export, first_of}
use Rattle.hepurita.proofs.grammar_laws_lemmas.Existence.{answer_to}
use Rattle.hepurita.specs.Below.{accepted, ParseAnswer, exported, flattened, ProcedureTree, Profile, ProgramTree}
use Rattle.hepurita.specs.Below.{range_violations, Reads, refused, size_violations, violations}
use Rattle.hepurita.specs.source_work.SourceWork.{work_violations}
use Rattle.hepurita.specs.Built.{Judgement, IsWellFormed, IsSmall, Judges, JudgesProgram, accepts, refuses, ill_typed}
use Rattle.hepurita.specs.Built.{too_large, out_of_range, too_much_work, fine, unreadable, readable}

module _ (profile : Profile) (program : ProgramTree) where
  abbrev Judged : Type 0
  Judged = (judgement : Judgement) × JudgesProgram profile program judgement

  by_work : (before : List ProcedureTree) (export : ProcedureTree) → IsSmall profile program before export
      → length (range_violations (flattened profile before export)) ≡ 0 → Judged
  by_work before export small in_range =
      ⊎_elim
      (λ in_time. (accepts program before export, fine small in_range in_time))
      (λ first. (refuses first.0.rule first.0.place, too_much_work small in_range first.1))
      (first_of (work_violations before export))

  by_range : (before : List ProcedureTree) (export : ProcedureTree) → IsSmall profile program before export → Judged
  by_range before export small =
      ⊎_elim
      (λ in_range. by_work before export small in_range)
      (λ first. (refuses first.0.rule first.0.place, out_of_range small first.1))
      (first_of (range_violations (flattened profile before export)))

  by_size : (before : List ProcedureTree) (export : ProcedureTree)
      → IsWellFormed profile program before export → Judged
  by_size before export is =
      ⊎_elim
      (λ small. by_range before export (record { well_formed = is; sized = small }))
      (λ first. (refuses first.0.rule first.0.place, too_large is first.1))
      (first_of (size_violations before export))

  by_export : length (violations profile program) ≡ 0 → (found : Export)
      → exported [] program.procedures ≡ found → Judged
  by_export typed None is = absurd (has_export profile program typed is)
  by_export typed (Some (before, export)) is = by_size before export (record { typed = typed; is_export = is })

  judged_program : Judged
  judged_program =
      ⊎_elim
      (λ typed. by_export typed (exported [] program.procedures) refl)
      (λ first. (refuses first.0.rule first.0.place, ill_typed first.1))
      (first_of (violations profile program))

by_answer : (profile : Profile) (source : List ℕ) (answer : ParseAnswer) → Reads source answer
    → (judgement : Judgement) × Judges profile source judgement
by_answer profile source (accepted program) reads = let judged = judged_program profile program in
    (judged.0, readable reads judged.1)
by_answer profile source (refused rule place) reads = (refuses rule place, unreadable reads)

pub each_judged : (profile : Profile) (source : List ℕ) → (judgement : Judgement) × Judges profile source judgement
each_judged profile source = let answer = answer_to source in by_answer profile source answer.0 answer.1
