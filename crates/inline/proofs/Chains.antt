-- What one block after another does, and one iteration of a loop after another.
use Rattle.std.proofs.Common.{◌≡◌, ℕ, zero, suc, ◌+◌, ◌-◌, ◌<◌, refl, arith}
use Rattle.inline.specs.Flat.{FlatBlock, nothing, first, chain}
use Rattle.inline.specs.FlatMeaning.{Values, after, after_all, path_at, path_along, iterations}
use Rattle.inline.specs.Path.{either, first_fault}
use Rattle.inline.proofs.Comes.{across, either-assoc}

pub after_chain : (a b : FlatBlock) (m : Values) → after_all m (chain a b) ≡ after_all (after_all m a) b
after_chain nothing b m = refl
after_chain (first s a) b m = after_chain a b (after m s)

-- the first fault of the one, or else of the other
pub fault_chain : (a b : FlatBlock) (m : Values) → first_fault (path_along m (chain a b)) ≡ either
    (first_fault (path_along m a)) (first_fault (path_along (after_all m a) b))
fault_chain nothing b m = refl
fault_chain (first s a) b m = rw (
  across (path_at m s) (path_along (after m s) (chain a b)),
  across (path_at m s) (path_along (after m s) a),
  fault_chain a b (after m s),
  either-assoc,
) refl

-- what each iteration keeps, all iterations keep
pub iterations_keep : {S : Type 0} (P : S → Type 0) (iteration : ℕ → S → S) (high : ℕ)
    → ((i : ℕ) (s : S) → i < high → P s → P (iteration i s)) → (k i : ℕ) (s : S) → high - i ≡ k → P s
    → P (iterations k i iteration s)
iterations_keep P iteration high keep zero i s count kept = kept
iterations_keep P iteration high keep (suc k) i s count kept =
    iterations_keep P iteration high keep k (i + 1) (iteration i s) (omega arith) (keep i s (omega arith) kept)
