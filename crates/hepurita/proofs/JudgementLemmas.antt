-- A source is not both accepted and refused, nor accepted for two exports.
use Rattle.std.proofs.Common.{◌≡◌, ℕ, ◌≤◌, Bool, true, false, nat_lt, ◌||◌, List, [], ◌∷◌, ◌++◌, None, Some, length}
use Rattle.std.proofs.Common.{refl, ap, sym, subst, ◌∙◌, arith}
use Rattle.std.specs.List.{AllByRecursion}
use Rattle.hepurita.specs.Below.{accepted, exported, flattened, IsFirst, OneAnswer, Place, ProcedureTree, Profile}
use Rattle.hepurita.specs.Below.{ProgramTree, range_violations, refused, Rule, size_violations, Violation, violations}
use Rattle.hepurita.specs.source_work.SourceWork.{work_violations}
use Rattle.hepurita.specs.Built.{IsSmall, Judges, JudgesProgram, accepts, refuses, ill_typed, too_large, out_of_range}
use Rattle.hepurita.specs.Built.{too_much_work, fine, unreadable, readable}
use Rattle.hepurita.proofs.Exports.{Export, export_or, front_or}

-- ---- the lists of violations, in the order in which they are asked for

abbrev AreEmpty : List (List Violation) → Type 0
AreEmpty = AllByRecursion (λ vs. length vs ≡ 0)

-- the first violation of the first list that is not empty
pub data IsNamed : List (List Violation) → Violation → Type 0 where
  here : {vs : List Violation} {later : List (List Violation)} {v : Violation} → IsFirst vs v → IsNamed (vs ∷ later) v
  behind : {vs : List Violation} {later : List (List Violation)} {v : Violation} → length vs ≡ 0 → IsNamed later v
      → IsNamed (vs ∷ later) v

none_named : (all : List (List Violation)) (v : Violation) → AreEmpty all → IsNamed all v → ⊥
none_named [] v empty named = elim named [ ]
none_named (vs ∷ later) v empty (here first) = omega (arith, empty.0, first.there.1)
none_named (vs ∷ later) v empty (behind is named) = none_named later v empty.1 named

module _ (profile : Profile) where
  abbrev of_export : Export → List (List Violation)
  of_export None = []
  of_export (Some (before, p)) =
      size_violations before p ∷ range_violations (flattened profile before p) ∷ work_violations before p ∷ []

  abbrev pub all_asked : ProgramTree → List (List Violation)
  all_asked program = violations profile program ∷ of_export (exported [] program.procedures)

  pub named : (program : ProgramTree) (rule : Rule) (place : Place) → JudgesProgram profile program (refuses rule place)
      → (v : Violation) × (rule ≡ v.rule) × (place ≡ v.place) × IsNamed (all_asked program) v
  named program rule place (ill_typed {first} earliest) = (first, refl, refl, here earliest)
  named program rule place (too_large {first = first} is earliest) =
      (first, refl, refl, behind is.typed (rw is.is_export (here earliest)))
  named program rule place (out_of_range {first = first} small earliest) =
      let is = small.well_formed in
      (first, refl, refl, behind is.typed (rw is.is_export (behind small.sized (here earliest))))
  named program rule place (too_much_work {first = first} small in_range earliest) =
      let is = small.well_formed in
      (first, refl, refl, behind is.typed (rw is.is_export (behind small.sized (behind in_range (here earliest)))))

  -- a program is not both
  apart : (program of : ProgramTree) (before : List ProcedureTree) (export : ProcedureTree) (rule : Rule)
      (place : Place) → JudgesProgram profile program (accepts of before export)
      → JudgesProgram profile program (refuses rule place) → ⊥
  apart program of before export rule place (fine small in_range in_time) judges =
      let is = small.well_formed in
      let it = named program rule place judges in
      none_named (all_asked program) it.0 (is.typed, rw is.is_export (small.sized, (in_range, (in_time, tt)))) it.3

  -- what an accepted program's export is
  pub of_accepted : (program of : ProgramTree) (before : List ProcedureTree) (export : ProcedureTree)
      → JudgesProgram profile program (accepts of before export)
      → IsSmall profile program before export × (length (range_violations (flattened profile before export)) ≡ 0)
  of_accepted program of before export (fine small in_range in_time) = (small, in_range)

  pub not_both : OneAnswer
      → (source : List ℕ) (program : ProgramTree) (before : List ProcedureTree) (export : ProcedureTree) (rule : Rule)
      (place : Place) → Judges profile source (accepts program before export)
      → Judges profile source (refuses rule place) → ⊥
  not_both one source of before export rule place (readable {program} reads judges) (unreadable reads') =
      let same = one source (accepted program) (refused rule place) reads reads' in
      cc
  not_both one source of before export rule place (readable {program} reads judges)
      (readable {program = other} reads' judges') =
      let answer = one source (accepted program) (accepted other) reads reads' in
      let same : program ≡ other = cc in
      apart other of before export rule place
      (subst (λ (p : ProgramTree). JudgesProgram profile p (accepts of before export)) same judges) judges'

  -- an accepted source is one program with one export
  pub one_export : OneAnswer
      → (source : List ℕ) (program program' : ProgramTree) (before before' : List ProcedureTree)
      (export export' : ProcedureTree) → Judges profile source (accepts program before export)
      → Judges profile source (accepts program' before' export')
      → (program ≡ program') × (before ≡ before') × (export ≡ export')
  one_export one source program program' before before' export export' (readable reads (fine small in_range in_time))
      (readable reads' (fine small' in_range' in_time')) =
      let answer = one source (accepted program) (accepted program') reads reads' in
      let same : program ≡ program' = cc in
      let exports : Some (before, export) ≡ Some (before', export') =
      sym small.well_formed.is_export ∙ ap (λ (p : ProgramTree). exported [] p.procedures) same
      ∙ small'.well_formed.is_export in
      (same, ap (front_or before) exports, ap (export_or export) exports)
