-- The beginnings of a program by the cases of the grammar: no token, or the first parts of a case, whole, and a
-- beginning of its next part.
use Rattle.std.specs.Prelude.{List, [], ◌∷◌, ◌↔◌}
use Rattle.syntax.specs.Cases.{Single, IsOne, Phrase, procedures, CasePart, one, all, Case}
use Rattle.syntax.specs.Grammar.{IsProgram, IsBeginning}
use Rattle.tokens.specs.Lexeme.{Lexeme}
use Rattle.syntax.specs.Below.{ProgramTree}

mutual
  -- the tokens up to the rest are a whole phrase
  pub data Whole : Phrase → List Lexeme → List Lexeme → Type 0 where
    by_case : {phrase : Phrase} {parts : List CasePart} {tokens rest : List Lexeme} → Case phrase parts
        → WholeParts parts tokens rest → Whole phrase tokens rest

  -- they are parts one after another
  pub data WholeParts : List CasePart → List Lexeme → List Lexeme → Type 0 where
    no_part : {rest : List Lexeme} → WholeParts [] rest rest
    a_token : {single : Single} {parts : List CasePart} {t : Lexeme} {tokens rest : List Lexeme} → IsOne single t
        → WholeParts parts tokens rest → WholeParts (one single ∷ parts) (t ∷ tokens) rest
    a_phrase : {phrase : Phrase} {parts : List CasePart} {tokens second rest : List Lexeme} → Whole phrase tokens second
        → WholeParts parts second rest → WholeParts (all phrase ∷ parts) tokens rest

mutual
  -- the tokens begin a phrase
  pub data Begins : Phrase → List Lexeme → Type 0 where
    in_case : {phrase : Phrase} {parts : List CasePart} {tokens : List Lexeme} → Case phrase parts
        → BeginsParts parts tokens → Begins phrase tokens

  -- they begin parts that stand one after another
  pub data BeginsParts : List CasePart → List Lexeme → Type 0 where
    no_token : {parts : List CasePart} → BeginsParts parts []
    past_token : {single : Single} {parts : List CasePart} {t : Lexeme} {tokens : List Lexeme} → IsOne single t
        → BeginsParts parts tokens → BeginsParts (one single ∷ parts) (t ∷ tokens)
    past_phrase : {phrase : Phrase} {parts : List CasePart} {tokens second : List Lexeme} → Whole phrase tokens second
        → BeginsParts parts second → BeginsParts (all phrase ∷ parts) tokens
    in_phrase : {phrase : Phrase} {parts : List CasePart} {tokens : List Lexeme} → Begins phrase tokens
        → BeginsParts (all phrase ∷ parts) tokens

-- the cases make the programs of the grammar, and their beginnings
pub record AreByCases : Type 0 where
  pub programs : (tokens : List Lexeme) → ((tree : ProgramTree) × IsProgram tokens tree) ↔ Whole procedures tokens []
  pub beginnings : (tokens : List Lexeme) → IsBeginning tokens ↔ Begins procedures tokens
