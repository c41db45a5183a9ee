-- What is known of parts, found one after the other.
use Rattle.std.proofs.Common.{◌≡◌, ◌+◌, ◌&&◌, ℕ, Bool, true, false, Option, None, Some, is_some, length, ap, refl}
use Rattle.std.proofs.Common.{List, [], ◌∷◌, ◌++◌, append_assoc, length-append, arith}
use Rattle.std.specs.Prelude.{IfSome}
use Rattle.labels.specs.Below.{Typed, with_typed}

-- what is known of the parts so far, if each was well typed, before that of what is left
abbrev pub found_before : Bool → List Typed → Option (List Typed) → Option (List Typed)
found_before true found (Some rest) = Some (found ++ rest)
found_before true found None = None
found_before false found rest = None

-- one more part is found, which is kept where it is well typed
pub found_more : (typed kept : Bool) (found more : List Typed) (one : Option Typed) (rest : Option (List Typed))
    → kept ≡ is_some one → IfSome one (λ known. more ≡ found ++ known ∷ [])
    → found_before (typed && kept) more rest ≡ found_before typed found (with_typed one rest)
found_more true kept found more (Some known) (Some rest) is added =
    rw (is, added) (ap (λ xs. Some xs) (append_assoc found (known ∷ []) rest))
found_more true kept found more (Some known) None is added = rw is refl
found_more true kept found more None rest is added = rw is refl
found_more false kept found more one rest is added = refl

-- so there are as many as parts, where each was well typed
pub count_more : (typed kept : Bool) (found more : List Typed) (one : Option Typed) (count : ℕ)
    → kept ≡ is_some one → IfSome one (λ known. more ≡ found ++ known ∷ [])
    → (typed ≡ true → length found ≡ count) → (typed && kept) ≡ true → length more ≡ count + 1
count_more true kept found more (Some known) count is added so_far both =
    omega (arith, so_far refl, ap length added, length-append found (known ∷ []))
count_more true kept found more None count is added so_far both = cc
count_more false kept found more one count is added so_far both = cc
