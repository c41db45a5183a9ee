-- The first statements of a block, and those behind them.
use Rattle.std.proofs.Common.{◌≡◌, ℕ, zero, suc, ◌+◌, List, ◌++◌, refl, sym, ap, ◌∙◌, append_assoc, arith}
use Rattle.codegen.proofs.Language.{after, after_all, AreTyped, block_work, first, FlatVariable, nothing, Path}
use Rattle.codegen.proofs.Language.{path_along, path_at, Profile, StraightBlock, StraightState}

-- so many first statements
abbrev pub front : ℕ → StraightBlock → StraightBlock
front zero b = nothing
front (suc n) nothing = nothing
front (suc n) (first s rest) = first s (front n rest)

-- those behind so many
abbrev pub behind : ℕ → StraightBlock → StraightBlock
behind zero b = b
behind (suc n) nothing = nothing
behind (suc n) (first s rest) = behind n rest

-- A block is its first statements and those behind them.

pub after_parts : (n : ℕ) (b : StraightBlock) (env : StraightState)
    → after_all env b ≡ after_all (after_all env (front n b)) (behind n b)
after_parts zero b env = refl
after_parts (suc n) nothing env = refl
after_parts (suc n) (first s rest) env = after_parts n rest (after env s)

pub path_parts : (n : ℕ) (b : StraightBlock) (env : StraightState)
    → path_along env b ≡ path_along env (front n b) ++ path_along (after_all env (front n b)) (behind n b)
path_parts zero b env = refl
path_parts (suc n) nothing env = refl
path_parts (suc n) (first s rest) env =
    let next = after env s in
    ap (λ (p : Path). path_at env s ++ p) (path_parts n rest next)
    ∙ sym (append_assoc (path_at env s) (path_along next (front n rest))
    (path_along (after_all next (front n rest)) (behind n rest)))

pub work_parts : (counts : List ℕ) (n : ℕ) (b : StraightBlock)
    → block_work counts b ≡ block_work counts (front n b) + block_work counts (behind n b)
work_parts counts zero b = omega arith
work_parts counts (suc n) nothing = refl
work_parts counts (suc n) (first s rest) = omega (arith, work_parts counts n rest)

-- so the first are typed where all are
pub front_typed : (profile : Profile) (declared : List FlatVariable) (controls n : ℕ) (b : StraightBlock)
    → AreTyped profile declared controls b → AreTyped profile declared controls (front n b)
front_typed profile declared controls zero b typed = tt
front_typed profile declared controls (suc n) nothing typed = tt
front_typed profile declared controls (suc n) (first s rest) typed =
    (typed.0, front_typed profile declared controls n rest typed.1)
