-- Each token stands at the place after the bytes before it.
use Rattle.std.proofs.Common.{◌≡◌, ℕ, ◌+◌, List, [], ◌∷◌, ◌++◌, length, take, refl, ap, arith, append_assoc}
use Rattle.std.specs.List.{All, AllByRecursion}
use Rattle.std.proofs.lemmas.List.{take_at}
use Rattle.std.proofs.lemmas.List.Elements.{All-from_recursion}
use Rattle.hepurita.specs.Below.{Lexeme, Lexes, LexesFrom, next_place, origin, past_space, past_token, Place}
use Rattle.tokens.specs.Tokens.{TokensEnding}
use Rattle.hepurita.specs.Below.{place_after}

-- the token's place is that after the bytes before it
abbrev pub IsPlacedIn : List ℕ → Lexeme → Type 0
IsPlacedIn source token = token.place ≡ place_after origin (take token.place.offset source)

pub offset_after : (place : Place) (bytes : List ℕ) → (place_after place bytes).offset ≡ place.offset + length bytes
offset_after place [] = omega arith
offset_after place (b ∷ bytes) = omega (arith, offset_after (next_place place b) bytes)

after_both : (place : Place) (front bytes : List ℕ)
    → place_after place (front ++ bytes) ≡ place_after (place_after place front) bytes
after_both place [] bytes = refl
after_both place (b ∷ front) bytes = after_both (next_place place b) front bytes

placed_at : (source front rest : List ℕ) (place : Place) → source ≡ front ++ rest → place ≡ place_after origin front
    → place ≡ place_after origin (take place.offset source)
placed_at source front rest place parts is =
    let many : place.offset ≡ length front =
    omega (arith, ap (λ (p : Place). p.offset) is, offset_after origin front) in
    let same : take place.offset source ≡ front = rw (many, parts) (take_at front rest (length front) refl) in
    rw same is

pub placed_from : {place : Place} {rest : List ℕ} {tokens : List Lexeme} {end : TokensEnding}
    → LexesFrom place rest tokens end → (source front : List ℕ) → source ≡ front ++ rest
    → place ≡ place_after origin front → AllByRecursion (IsPlacedIn source) tokens
placed_from (past_space {spelling} begins h) source front parts is =
    placed_from h source (front ++ spelling) (rw (parts, begins.parts, append_assoc)) (rw (is, after_both))
placed_from (past_token {place} {text = rest} {spelling} begins h) source front parts is = (
  placed_at source front rest place parts is,
  placed_from h source (front ++ spelling) (rw (parts, begins.parts, append_assoc)) (rw (is, after_both)),
)
placed_from _ source front parts is = tt

pub placed : (source : List ℕ) (tokens : List Lexeme) (end : TokensEnding) → Lexes source tokens end
    → All (IsPlacedIn source) tokens
placed source tokens end h = All-from_recursion (IsPlacedIn source) tokens (placed_from h source [] refl refl)
