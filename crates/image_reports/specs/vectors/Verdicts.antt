-- What is said of a vector, by what the source means and what an observer sees of its image; and of all vectors of a
-- file.
use Rattle.std.specs.Prelude.{◌≡◌, ℕ, ◌+◌, List, [], ◌∷◌, ◌++◌, map, codes, Option, Some, None, Ok}
use Rattle.std.specs.Fmt.{decimal}
use Rattle.image_reports.specs.Below.{Arg, ArgumentFault, CertifiedEnd, fault_of_texts, fault_text, Fields, Hidden}
use Rattle.image_reports.specs.Below.{IsCompilation, MayDiffer, Means, Optimisation, params_of, ProcedureTree, Profile}
use Rattle.image_reports.specs.Below.{ProgramTree, Results, Same}
use Rattle.image_reports.specs.certificates.Certified.{Certified}
use Rattle.image_reports.specs.vectors.Lines.{NamedVector}
use Rattle.image_reports.specs.vectors.Spelled.{TextsSpell, Spell, lists_of, publics}
use Rattle.image_reports.specs.vectors.Texts.{plain, difference_text}

-- a source that is accepted for an observer: its program, and its image, plain or optimised
pub record IsSource (optimisation : Optimisation) (profile : Profile) (source : List ℕ) (program : ProgramTree)
    (image : Fields) : Type 0 where
  pub before : List ProcedureTree
  pub export : ProcedureTree
  pub compilation : IsCompilation optimisation profile source program before export image

-- the same, whatever the source, the code and the observer
abbrev pub IsImageOf : ProgramTree → Fields → Type 0
IsImageOf program image =
    (optimisation : Optimisation) × (profile : Profile) × (source : List ℕ)
    × IsSource optimisation profile source program image

-- what is wrong with what an observer sees for all secrets
abbrev pub wrong_in : CertifiedEnd → Option (List ℕ)
wrong_in (Same stop entries) = None
wrong_in (MayDiffer entry pc) = Some (codes "may differ at " ++ decimal entry)

module _ (program : ProgramTree) (image : Fields) (vector : NamedVector) where
  -- the vector's texts spell these arguments, on which the program means this
  pub record VectorGives (args : List Arg) (results : Results) : Type 0 where
    pub spelled : TextsSpell (params_of image) (map plain vector.given) args
    pub means : Means program args results

  -- and the vector asks for that
  abbrev pub Asks : Results → Type 0
  Asks results = Spell (map plain vector.wanted) (lists_of results)

  -- what is said of the vector, if something is wrong: its texts spell no arguments; or the program means something
  -- else on them; or an observer may see something else for other secrets. A vector of which nothing is said passes
  pub data IsVerdict : Option (List ℕ) → Type 0 where
    no_arguments : {fault : ArgumentFault} → fault_of_texts (params_of image) (map plain vector.given) ≡ Some fault
        → IsVerdict (Some (fault_text fault))
    another_outcome : {args : List Arg} {results : Results} → VectorGives args results → (Asks results → ⊥)
        → IsVerdict (Some (difference_text vector.wanted (lists_of results)))
    right_outcome : {args : List Arg} {results : Results} {end : CertifiedEnd} → VectorGives args results → Asks results
        → Certified image (publics (params_of image) args) Hidden (Ok end) → IsVerdict (wrong_in end)

-- of these vectors so many passed and so many failed, each of which has a line
pub data Tried (program : ProgramTree) (image : Fields) : List NamedVector → ℕ → ℕ → List ℕ → Type 0 where
  none : Tried program image [] 0 0 []
  passed : {vectors : List NamedVector} {vector : NamedVector} {m n : ℕ} {text : List ℕ}
      → Tried program image vectors m n text
      → IsVerdict program image vector None → Tried program image (vectors ++ vector ∷ []) (m + 1) n text
  failed : {vectors : List NamedVector} {vector : NamedVector} {m n : ℕ} {text wrong : List ℕ}
      → Tried program image vectors m n text
      → IsVerdict program image vector (Some wrong)
      → Tried program image (vectors ++ vector ∷ []) m (n + 1)
      (text ++ vector.name ++ codes ": " ++ wrong ++ codes "\n")

-- what is printed of these vectors: the lines of those that failed, and how many passed and failed
pub record IsTally (program : ProgramTree) (image : Fields) (vectors : List NamedVector) (text : List ℕ)
    (failures : ℕ) : Type 0 where
  pub passes : ℕ
  pub lines : List ℕ
  pub tried : Tried program image vectors passes failures lines
  pub printed : text ≡ lines ++ decimal passes ++ codes " passed, " ++ decimal failures ++ codes " failed\n"

-- the same of the vectors of a source, tried on its plain or optimised image
pub record IsReport (optimisation : Optimisation) (profile : Profile) (source : List ℕ) (vectors : List NamedVector)
    (text : List ℕ) (failures : ℕ) : Type 0 where
  pub program : ProgramTree
  pub image : Fields
  pub is_source : IsSource optimisation profile source program image
  pub tally : IsTally program image vectors text failures
