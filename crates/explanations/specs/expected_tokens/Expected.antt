-- Which kinds of tokens may stand behind the beginning of a source: those of which one, with nothing behind it,
-- leaves the beginning of a program.
use Rattle.std.specs.Prelude.{ℕ, ◌==◌, ◌&&◌, not, Bool, true, false, List, [], ◌∷◌, ◌++◌, length, codes}
use Rattle.explanations.specs.Below.{accepted, ParseAnswer, Reads, refused, Rule, UnexpectedToken}

-- a beginning with a token behind it, on a line of its own: the beginning may end in a comment
abbrev pub tried : List ℕ → List ℕ → List ℕ
tried front token = front ++ (codes "\n" ++ token)

-- whether a text with this last token, refused by a rule behind so many bytes, lacks nothing but more tokens: it ends
-- too early, and a token was tried
abbrev pub lacks_tokens : Rule → ℕ → List ℕ → List ℕ → Bool
lacks_tokens UnexpectedToken offset text token = not (length token == 0) && offset == length text
lacks_tokens rule offset text token = false

-- whether a program begins with a text that is answered so, whose last token this is; or is the text, where no token
-- is tried
abbrev pub begins_program : List ℕ → List ℕ → ParseAnswer → Bool
begins_program text token (accepted program) = true
begins_program text token (refused rule place) = lacks_tokens rule place.offset text token

-- whether a token may stand behind a beginning
pub data MayFollow (front token : List ℕ) : Bool → Type 0 where
  by_answer : (answer : ParseAnswer) → Reads (tried front token) answer
      → MayFollow front token (begins_program (tried front token) token answer)

-- what those kinds are called, of a list of kinds
pub data Expects (front : List ℕ) : List (List ℕ × List ℕ) → List (List ℕ) → Type 0 where
  none : Expects front [] []
  may : {name token : List ℕ} {kinds : List (List ℕ × List ℕ)} {names : List (List ℕ)}
      → MayFollow front token true → Expects front kinds names → Expects front ((name, token) ∷ kinds) (name ∷ names)
  may_not : {name token : List ℕ} {kinds : List (List ℕ × List ℕ)} {names : List (List ℕ)}
      → MayFollow front token false → Expects front kinds names → Expects front ((name, token) ∷ kinds) names
