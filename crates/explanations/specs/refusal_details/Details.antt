-- What is said of a refusal beside its rule: lines, each with its end, or nothing.
use Rattle.std.specs.Prelude.{◌≡◌, ℕ, ◌==◌, nat_eq, Bool, ◌||◌, if◌then◌else◌, List, [], ◌∷◌, ◌++◌, take, drop, length}
use Rattle.std.specs.Prelude.{nat_lt, codes, Option, None, Some}
use Rattle.std.specs.List.{starts_with}
use Rattle.explanations.specs.refusal_details.ExpectedLines.{SaysUnexpected}
use Rattle.explanations.specs.Below.{accepted, Place, place_text, ProcedureTree, ProgramTree, Reads, Refusal}
use Rattle.explanations.specs.Below.{refused, Rule, UnexpectedToken, UnknownCharacter, Why}
use Rattle.explanations.specs.refusal_details.WhyLines.{why_lines}
use Rattle.explanations.specs.call_places.CallPlaces.{call_places, procedure_at}
use Rattle.language.specs.declared.why.Why.TheVariants as why

-- X1: a byte order mark is named, as EF BB BF; and of a character of C it is said what to write instead
abbrev pub begins_with_mark : List ℕ → Bool
begins_with_mark bytes = starts_with nat_eq bytes (0xEF ∷ 0xBB ∷ 0xBF ∷ [])

abbrev pub no_select : List ℕ
no_select = codes "  there is no conditional operator: write `select(c, x, y)` (docs/COOKBOOK.md)\n"

abbrev pub no_labels : List ℕ
no_labels =
    codes "  there are no labels, and a type stands before its name: `secret uint32 x = 1;` (docs/COOKBOOK.md)\n"

abbrev pub no_fields : List ℕ
no_fields = codes "  there are no fields and no fractions: use a variable for each field (docs/COOKBOOK.md)\n"

abbrev pub no_texts : List ℕ
no_texts = codes "  there are no texts and no characters: write numbers, as 97 for `a` (docs/COOKBOOK.md)\n"

abbrev pub no_preprocessor : List ℕ
no_preprocessor = codes "  there is no preprocessor: write numbers out, and give other files by `--with LIB`\n"

-- by its first byte: `?`, `:`, `.`, `"`, `'` and `#` in ASCII
abbrev pub habit_of : ℕ → List ℕ
habit_of byte =
    if byte == 0x3F then no_select else
    if byte == 0x3A then no_labels else
    if byte == 0x2E then no_fields else
    if byte == 0x22 || byte == 0x27 then no_texts else
    if byte == 0x23 then no_preprocessor else []

abbrev pub habit_line : List ℕ → List ℕ
habit_line [] = []
habit_line (byte ∷ bytes) = habit_of byte

abbrev pub character_line : List ℕ → List ℕ
character_line bytes =
    if begins_with_mark bytes
    then codes "  this is a byte order mark, which cannot be seen: save the file without it\n" else habit_line bytes

-- I1, I2: where the procedure is called that the place is in; of more than eight places the first eight
abbrev pub most_others : ℕ
most_others = 7

abbrev pub places_text : List Place → List ℕ
places_text [] = []
places_text (place ∷ places) = codes ", " ++ (place_text place ++ places_text places)

abbrev pub others_text : List Place → List ℕ
others_text places = places_text (take most_others places)
    ++ (if nat_lt most_others (length places) then codes ", .." else [])

abbrev pub called_line : List ℕ → List Place → List ℕ
called_line name [] = []
called_line name (first ∷ others) =
    codes "  this is in `"
    ++ (name ++ (codes "`, which is called at " ++ (place_text first ++ (others_text others ++ codes "\n"))))

abbrev pub procedure_line : List ProcedureTree → Option ProcedureTree → List ℕ
procedure_line procedures None = []
procedure_line procedures (Some p) = called_line p.name (call_places p.name procedures)

abbrev pub calls_line : ℕ → List ProcedureTree → List ℕ
calls_line at procedures = procedure_line procedures (procedure_at at procedures)

-- the program that a source is, if it is one
pub data IsProgramOf (source : List ℕ) : Option ProgramTree → Type 0 where
  read : {program : ProgramTree} → Reads source (accepted program) → IsProgramOf source (Some program)
  unread : {rule : Rule} {place : Place} → Reads source (refused rule place) → IsProgramOf source None

-- what is said of it; nothing where there is none
abbrev pub SaysOfFound : (ProgramTree → List ℕ → Type 0) → Option ProgramTree → List ℕ → Type 0
SaysOfFound said None lines = lines ≡ []
SaysOfFound said (Some program) lines = said program lines

abbrev pub SaysOfProgram : List ℕ → (ProgramTree → List ℕ → Type 0) → List ℕ → Type 0
SaysOfProgram source said lines = (found : Option ProgramTree) × IsProgramOf source found × SaysOfFound said found lines

-- of the procedure that so many bytes end in
abbrev pub SaysOfCalls : List ℕ → ℕ → List ℕ → Type 0
SaysOfCalls source at lines = SaysOfProgram source (λ program line. line ≡ calls_line at program.procedures) lines

-- what is found in a source behind so many bytes, where rule and place are all that is known
abbrev pub Finds : List ℕ → Rule → ℕ → List ℕ → Type 0
Finds source UnknownCharacter at lines = lines ≡ character_line (drop at source)
Finds source UnexpectedToken at lines = SaysUnexpected source at lines
Finds source rule at lines = lines ≡ []

-- and what is found beside the evidence of a violation
abbrev pub FindsBeside : List ℕ → Rule → Why → ℕ → List ℕ → Type 0
FindsBeside source rule why.Plain at lines = Finds source rule at lines
FindsBeside source rule (why.Index range) at lines = SaysOfCalls source at lines
FindsBeside source rule (why.Divisor divisor) at lines = SaysOfCalls source at lines
FindsBeside source rule evidence at lines = lines ≡ []

-- what is said of a refusal of a source: what its evidence says, and what is found beside it
pub data SaysDetails (source : List ℕ) (refusal : Refusal) : List ℕ → Type 0 where
  nowhere : {lines : List ℕ} → refusal.place ≡ None → lines ≡ [] → SaysDetails source refusal lines
  somewhere : {place : Place} {lines : List ℕ} (found : List ℕ)
      → refusal.place ≡ Some place
      → FindsBeside source refusal.rule refusal.why place.offset found
      → lines ≡ why_lines source refusal.why ++ found
      → SaysDetails source refusal lines
