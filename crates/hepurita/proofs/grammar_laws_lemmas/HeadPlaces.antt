-- A head's offset decides its line and its column, since it is a token's.
use Rattle.std.proofs.Common.{◌≡◌, ℕ, List, [], ◌∷◌, take, refl, ap, arith}
use Rattle.std.specs.List.{AllByRecursion}
use Rattle.hepurita.specs.Below.{accepted, by_tokens, Lexeme, origin, Place, place_after, ProgramTree, Reads}
use Rattle.hepurita.specs.grammar_laws.Heads.{astray, in_program}
use Rattle.hepurita.proofs.grammar_laws_lemmas.TokenPlaces.{IsPlacedIn, placed_from}
use Rattle.hepurita.proofs.grammar_laws_lemmas.CasesOfTrees.{among}
use Rattle.hepurita.proofs.grammar_laws_lemmas.TreeHeads.{heads_in_tokens}

in_place : (source : List ℕ) (place : Place) → place ≡ place_after origin (take place.offset source)
    → astray source place ≡ 0
in_place source place is = omega (arith, ap (λ (p : Place). p.line) is, ap (λ (p : Place). p.column) is)

tokens_in_place : (source : List ℕ) (tokens : List Lexeme) → AllByRecursion (IsPlacedIn source) tokens
    → among (astray source) tokens ≡ 0
tokens_in_place source [] h = refl
tokens_in_place source (t ∷ tokens) h = omega (arith, in_place source t.place h.0, tokens_in_place source tokens h.1)

pub heads_in_place : (source : List ℕ) (tree : ProgramTree) → Reads source (accepted tree)
    → in_program (astray source) tree ≡ 0
heads_in_place source tree (by_tokens {tokens = tokens} short lexes answers) =
    omega (
      arith,
      heads_in_tokens answers (astray source),
      tokens_in_place source tokens (placed_from lexes source [] refl refl),
    )

-- two places at one offset are one
pub one_place : (source : List ℕ) (p q : Place) → astray source p ≡ 0 → astray source q ≡ 0 → p.offset ≡ q.offset
    → p ≡ q
one_place source p q h k same =
    let line : p.line ≡ q.line = omega (arith, ap (λ n. (place_after origin (take n source)).line) same) in
    let column : p.column ≡ q.column = omega (arith, ap (λ n. (place_after origin (take n source)).column) same) in
    λ i. record { offset = same i; line = line i; column = column i }
