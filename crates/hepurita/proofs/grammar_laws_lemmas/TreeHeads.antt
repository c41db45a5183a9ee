-- The heads of a tree are tokens of the text, and each token is at most one head.
use Rattle.std.proofs.Common.{◌≡◌, ℕ, ◌+◌, ◌<◌, ◌≤◌, List, refl, arith}
use Rattle.std.proofs.lemmas.Bool.Decides.{nat_tests}
use Rattle.hepurita.specs.Below.{accepted, IsParseAnswer, by_tokens, Lexeme, LexesFrom, past_space, past_token}
use Rattle.tokens.specs.Tokens.{TokensEnding}
use Rattle.hepurita.specs.Below.{Place, ProgramTree, Reads}
use Rattle.syntax.specs.Reading.{a_program}
use Rattle.hepurita.proofs.grammar_laws_lemmas.Below.{spelled_some}
use Rattle.hepurita.proofs.grammar_laws_lemmas.CasesOfTrees.{among, program}
use Rattle.hepurita.proofs.grammar_laws_lemmas.TokenPlaces.{offset_after}
use Rattle.hepurita.specs.grammar_laws.Heads.{here, in_program}

pub heads_in_tokens : {tokens : List Lexeme} {ending : TokensEnding} {tree : ProgramTree}
    → IsParseAnswer tokens ending (accepted tree) → (w : Place → ℕ) → in_program w tree ≤ among w tokens
heads_in_tokens (a_program _ end _ is within) w = omega (arith, (program is).heads_in w)

module _ (n : ℕ) where
  -- one token more, before others that stand further behind
  one_more : (place : Place) (next m : ℕ) → place.offset < next → (n < next → m ≡ 0) → m ≤ 1
      → (n < place.offset → here n place + m ≡ 0) × (here n place + m ≤ 1)
  one_more place next m later none few = (λ less. grind (arith, nat_tests), grind (arith, nat_tests))

  -- tokens stand one after another
  apart : {place : Place} {text : List ℕ} {tokens : List Lexeme} {end : TokensEnding} → LexesFrom place text tokens end
      → (n < place.offset → among (here n) tokens ≡ 0) × (among (here n) tokens ≤ 1)
  apart (past_space {place} {spelling = spelling} begins h) =
      let later = apart h in
      (λ less. later.0 (omega (arith, offset_after place spelling)), later.1)
  apart (past_token {place} {spelling = spelling} begins h) =
      let later = apart h in
      one_more place _ _ (omega (arith, offset_after place spelling, spelled_some begins.spelled)) later.0 later.1
  apart _ = (λ _. refl, omega arith)

-- at each offset stands one head at most
pub one_head : (text : List ℕ) (tree : ProgramTree) → Reads text (accepted tree) → (n : ℕ)
    → in_program (here n) tree ≤ 1
one_head text tree (by_tokens short lexes answers) n =
    omega (arith, heads_in_tokens answers (here n), (apart n lexes).1)
