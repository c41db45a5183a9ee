-- That texts are distinct can be computed.
use Rattle.std.proofs.Common.{◌≡◌, ℕ, Bool, true, false, not, ◌&&◌, List, [], ◌∷◌, refl}
use Rattle.std.specs.List.{AllByRecursion, IsDistinct}
use Rattle.std.specs.Str.{bytes_eq}
use Rattle.std.proofs.lemmas.Bool.{not-true}

both : (a b : Bool) → (a && b) ≡ true → (a ≡ true) × (b ≡ true)
both true b h = (refl, h)
both false b h = absurd (cc)

-- whether a text is none of these
unfoldable pub differs : List ℕ → List (List ℕ) → Bool
differs text [] = true
differs text (other ∷ texts) = not (bytes_eq text other) && differs text texts

-- whether no two texts are equal
unfoldable pub all_differ : List (List ℕ) → Bool
all_differ [] = true
all_differ (text ∷ texts) = differs text texts && all_differ texts

none_equal : (text : List ℕ) (texts : List (List ℕ)) → differs text texts ≡ true
    → AllByRecursion (λ other. bytes_eq text other ≡ false) texts
unfolding differs
none_equal text [] h = tt
none_equal text (other ∷ texts) h =
    let parts = both _ _ h in
    (not-true _ parts.0, none_equal text texts parts.1)

pub are_distinct : (texts : List (List ℕ)) → all_differ texts ≡ true → IsDistinct bytes_eq texts
unfolding all_differ IsDistinct
are_distinct [] h = tt
are_distinct (text ∷ texts) h =
    let parts = both _ _ h in
    (none_equal text texts parts.0, are_distinct texts parts.1)
