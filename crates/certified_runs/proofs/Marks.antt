-- Masks and marks: what is read of them, and what becomes of them when some are set.
use Rattle.std.specs.Prelude.{slice_index_or, is_some}
use Rattle.std.proofs.Common.{◌≡◌, ℕ, zero, suc, Bool, true, false, refl, sym, ap, ◌∙◌, replicate}
use Rattle.std.proofs.Math.Path.{fun_ext}
use Rattle.certified_runs.specs.Below.{ByteMap, number_at, with_number}
use Rattle.certified_runs.proofs.Below.{is_some-with_number}
use Rattle.certified_runs.specs.Parts.{no_masks, register_masks}
use Rattle.certified_runs.specs.private.Stepped.{HaveOneExtent}

all_zero : (n r : ℕ) → ◌≡◌ {A = ℕ} (slice_index_or (replicate n 0) r 0) 0
all_zero zero r = refl
all_zero (suc n) zero = refl
all_zero (suc n) (suc r) = all_zero n r

-- masks that are all 0
pub zero_masks : (n : ℕ) → register_masks (replicate n 0) ≡ no_masks
zero_masks n = fun_ext (all_zero n)

-- which bytes there are stays where a memory is asked to store a number
pub store_extent : (old new : ByteMap) (n a v : ℕ) (answer : Bool) → answer ≡ is_some (number_at old n a)
    → (answer ≡ true → new ≡ with_number old n a v) → (answer ≡ false → new ≡ old) → HaveOneExtent new old
store_extent old new n a v true is stored unchanged = λ x.
    ap (λ (m : ByteMap). is_some (m x)) (stored refl) ∙ is_some-with_number old n a v x (sym is)
store_extent old new n a v false is stored unchanged = λ x. ap (λ (m : ByteMap). is_some (m x)) (unchanged refl)
