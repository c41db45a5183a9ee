-- What the compiler answers to a source: the passes are asked in order, and each names its first violation.
use Rattle.std.specs.Prelude.{◌≡◌, ◌⊎◌, ℕ, ◌+◌, ◌*◌, ◌<◌, List, [], length, Some}
use Rattle.hepurita.specs.Below.{accepted, AreBases, AreBytes, exported, Fields, flattened, IsFirst, IsImage}
use Rattle.hepurita.specs.Below.{IsWantOfMemory, Place, ProcedureTree, Profile, ProgramTree, range_violations, Reads}
use Rattle.hepurita.specs.Below.{Refusal, refused, Rule, size_violations, Spells, Violation, violations}
use Rattle.hepurita.specs.source_work.SourceWork.{work_violations}
use Rattle.hepurita.specs.Bases.{code_base, frame_base, most_images, code_distance, frame_distance}
use Rattle.std.specs.Option.{option_map}
use Rattle.compilation.specs.Needs.{Needs}
use Rattle.hepurita.specs.Compiled.{IsCompiled}
use Rattle.hepurita.specs.declared.compiling.Compiled.{Compiled}
use Rattle.compilation.specs.Exact.{image_for}
use Rattle.compilation.specs.declared.optimised.Optimisation.{Optimisation}

pub data Judgement : Type 0 where
  -- a program with this export, and the procedures before it
  accepts : (program : ProgramTree) (before : List ProcedureTree) (export : ProcedureTree) → Judgement
  refuses : (rule : Rule) (place : Place) → Judgement

-- a program with this export behind these procedures, that violates no rule on names, types and labels
pub record IsWellFormed (profile : Profile) (program : ProgramTree) (before : List ProcedureTree)
    (export : ProcedureTree) : Type 0 where
  pub typed : length (violations profile program) ≡ 0
  pub is_export : exported [] program.procedures ≡ Some (before, export)

-- whose export, with the bodies that it calls, passes no limit on size
pub record IsSmall (profile : Profile) (program : ProgramTree) (before : List ProcedureTree)
    (export : ProcedureTree) : Type 0 where
  pub well_formed : IsWellFormed profile program before export
  pub sized : length (size_violations before export) ≡ 0

-- the judgement on a program, for an observer
pub data JudgesProgram (profile : Profile) (program : ProgramTree) : Judgement → Type 0 where
  -- it violates a rule on names, types and labels
  ill_typed : {first : Violation} → IsFirst (violations profile program) first
      → JudgesProgram profile program (refuses first.rule first.place)
  -- its export passes a limit on size
  too_large : {before : List ProcedureTree} {export : ProcedureTree} {first : Violation}
      → IsWellFormed profile program before export → IsFirst (size_violations before export) first
      → JudgesProgram profile program (refuses first.rule first.place)
  -- an index in it may be out of range, or a divisor 0
  out_of_range : {before : List ProcedureTree} {export : ProcedureTree} {first : Violation}
      → IsSmall profile program before export → IsFirst (range_violations (flattened profile before export)) first
      → JudgesProgram profile program (refuses first.rule first.place)
  -- it is too much work
  too_much_work : {before : List ProcedureTree} {export : ProcedureTree} {first : Violation}
      → IsSmall profile program before export → length (range_violations (flattened profile before export)) ≡ 0
      → IsFirst (work_violations before export) first → JudgesProgram profile program (refuses first.rule first.place)
  -- nothing is violated
  fine : {before : List ProcedureTree} {export : ProcedureTree} → IsSmall profile program before export
      → length (range_violations (flattened profile before export)) ≡ 0 → length (work_violations before export) ≡ 0
      → JudgesProgram profile program (accepts program before export)

-- the judgement on a source, for an observer
pub data Judges (profile : Profile) (source : List ℕ) : Judgement → Type 0 where
  -- it is no program
  unreadable : {rule : Rule} {place : Place} → Reads source (refused rule place)
      → Judges profile source (refuses rule place)
  -- it is one
  readable : {program : ProgramTree} {judgement : Judgement} → Reads source (accepted program)
      → JudgesProgram profile program judgement → Judges profile source judgement

-- the refusal is out of memory, which has no place, or it has a place and is the judgement
abbrev pub IsRefusal : (Judgement → Type 0) → Refusal → Type 0
IsRefusal J refusal = IsWantOfMemory refusal.rule refusal.place
    ⊎ ((place : Place) × (refusal.place ≡ Some place) × J (refuses refusal.rule place))

-- the image is that of an accepted source, plain or optimised, for an observer: the exported procedure and what it
-- calls, compiled; which sources are accepted is one question for both
pub record IsCompilation (optimisation : Optimisation) (profile : Profile) (source : List ℕ) (program : ProgramTree)
    (before : List ProcedureTree) (export : ProcedureTree) (image : Fields) : Type 0 where
  pub judged : Judges profile source (accepts program before export)
  pub observed : image.profile ≡ profile
  -- the export decides which image it is
  pub exact : image ≡ image_for optimisation profile before export
  pub allowed : IsImage image
  pub compiled : IsCompiled program before export image
  -- code and frame may lie at the standard bases, and those of several images side by side
  pub bases : (k : ℕ) → k < most_images
      → AreBases image (code_base + code_distance * k) (frame_base + frame_distance * k)

-- the bytes spell that image
pub record IsBuilt (optimisation : Optimisation) (profile : Profile) (source bytes : List ℕ) : Type 0 where
  pub program : ProgramTree
  pub before : List ProcedureTree
  pub export : ProcedureTree
  pub image : Fields
  pub compilation : IsCompilation optimisation profile source program before export image
  pub are_bytes : AreBytes bytes
  pub spelled : Spells bytes image
