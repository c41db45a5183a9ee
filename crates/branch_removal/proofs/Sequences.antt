-- Blocks one after the other, and paths.
use Rattle.std.proofs.Common.{◌≡◌, ℕ, List, [], ◌++◌, refl, sym, ap, ◌∙◌, append_assoc}
use Rattle.branch_removal.specs.Below.{AreFine, Path}
pub use Rattle.inline.proofs.FinePaths.{fine_back, fine_both, fine_front}
use Rattle.branch_removal.specs.Straight.{StraightBlock, nothing, first, chain}
use Rattle.branch_removal.specs.StraightMeaning.{StraightState, after, after_all, path_at, path_along}

pub after-chain : (s : StraightState) (these those : StraightBlock)
    → after_all s (chain these those) ≡ after_all (after_all s these) those
after-chain s nothing those = refl
after-chain s (first statement these) those = after-chain (after s statement) these those

pub path-chain : (s : StraightState) (these those : StraightBlock)
    → path_along s (chain these those) ≡ path_along s these ++ path_along (after_all s these) those
path-chain s nothing those = refl
path-chain s (first statement these) those =
    ap (λ rest. path_at s statement ++ rest) (path-chain (after s statement) these those)
    ∙ sym (append_assoc (path_at s statement) (path_along (after s statement) these)
    (path_along (after_all (after s statement) these) those))

module _ (most : List ℕ) where
  -- one statement, and nothing behind it
  pub fine_alone : (p : Path) → AreFine most p → AreFine most (p ++ [])
  fine_alone p fine = fine_both most p [] fine tt
