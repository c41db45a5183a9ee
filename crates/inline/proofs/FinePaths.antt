-- A path of two parts is fine where both parts are.
use Rattle.std.proofs.Common.{ℕ, List, [], ◌∷◌, ◌++◌}
use Rattle.inline.specs.Path.{Path, AreFine}

module _ (iterations : List ℕ) where
  pub fine_both : (p q : Path) → AreFine iterations p → AreFine iterations q → AreFine iterations (p ++ q)
  fine_both [] q one other = other
  fine_both (mark ∷ p) q one other = (one.0, fine_both p q one.1 other)

  pub fine_front : (p q : Path) → AreFine iterations (p ++ q) → AreFine iterations p
  fine_front [] q both = tt
  fine_front (mark ∷ p) q both = (both.0, fine_front p q both.1)

  pub fine_back : (p q : Path) → AreFine iterations (p ++ q) → AreFine iterations q
  fine_back [] q both = both
  fine_back (mark ∷ p) q both = fine_back p q both.1
