-- What an answer of the parser says of a refusal's place; and kinds that are tried one after another.
use Rattle.std.proofs.Common.{◌≡◌, ℕ, suc, ◌+◌, ◌<◌, Bool, true, false, List, map, take, length, get_or, ap, arith}
use Rattle.std.proofs.Common.{[], ◌∷◌, ◌++◌, Some, sym, subst, ◌∙◌, inl, inr}
use Rattle.std.proofs.lemmas.List.{map-append}
use Rattle.std.proofs.Math.Seq.{take-suc}
use Rattle.std.proofs.lemmas.Option.{none-some, same_Some}
use Rattle.explanations.specs.Below.{ParseAnswer, IsRefusedAs, Place, Refusal, refused}
use Rattle.explanations.specs.expected_tokens.Expected.{MayFollow, Expects, none, may, may_not}

-- a refusal at a place is an answer to the text
pub placed_at : (P : ParseAnswer → Type 0) (r : Refusal) (p : Place) → r.place ≡ Some p → IsRefusedAs P r
    → P (refused r.rule p)
placed_at P r p some (inl memory) = absurd (none-some p (sym memory.1 ∙ some))
placed_at P r p some (inr answer) =
    subst (λ (q : Place). P (refused r.rule q)) (same_Some answer.0 p (sym answer.1 ∙ some)) answer.2

-- one more kind, which may stand, or may not
pub one_more : (front : List ℕ) (kinds : List (List ℕ × List ℕ)) (names : List (List ℕ)) (name token : List ℕ)
    → Expects front kinds names → MayFollow front token true
    → Expects front (kinds ++ (name, token) ∷ []) (names ++ name ∷ [])
one_more front [] names name token none can = may can none
one_more front (k ∷ kinds) names name token (may first rest) can =
    may first (one_more front kinds _ name token rest can)
one_more front (k ∷ kinds) names name token (may_not first rest) can =
    may_not first (one_more front kinds names name token rest can)

pub no_more : (front : List ℕ) (kinds : List (List ℕ × List ℕ)) (names : List (List ℕ)) (name token : List ℕ)
    → Expects front kinds names → MayFollow front token false → Expects front (kinds ++ (name, token) ∷ []) names
no_more front [] names name token none cannot = may_not cannot none
no_more front (k ∷ kinds) names name token (may first rest) cannot =
    may first (no_more front kinds _ name token rest cannot)
no_more front (k ∷ kinds) names name token (may_not first rest) cannot =
    may_not first (no_more front kinds names name token rest cannot)

-- the same of a list in memory, of which so many were tried: one more that may stand is listed, and one that may not
-- is not
module _ {X Y : Type 0} (view : X → List ℕ × List ℕ) (shown : Y
    → List ℕ) (front : List ℕ) (items : List X) (i : ℕ) (otherwise : X) (within : i < length items) where
  next_kind : map view (take (i + 1) items) ≡ map view (take i items) ++ view (get_or items i otherwise) ∷ []
  next_kind =
      let next : i + 1 ≡ suc i = omega arith in
      ap (λ (n : ℕ). map view (take n items)) next
      ∙ ap (map view) (take-suc items i otherwise within)
      ∙ map-append view (take i items) (get_or items i otherwise ∷ [])

  pub with_one : (names longer : List Y) (y : Y) (can : Bool) → can ≡ true → longer ≡ names ++ y ∷ []
      → shown y ≡ (view (get_or items i otherwise)).0
      → Expects front (map view (take i items)) (map shown names)
      → MayFollow front (view (get_or items i otherwise)).1 can
      → Expects front (map view (take (i + 1) items)) (map shown longer)
  with_one names longer y can holds pushed same known may_stand =
      rw (next_kind, pushed, map-append shown names (y ∷ []), same)
      (one_more front (map view (take i items)) (map shown names) (view (get_or items i otherwise)).0
      (view (get_or items i otherwise)).1 known
      (subst (λ (b : Bool). MayFollow front (view (get_or items i otherwise)).1 b) holds may_stand))

  pub without_it : (names as_before : List Y) (can : Bool) → can ≡ false → as_before ≡ names
      → Expects front (map view (take i items)) (map shown names)
      → MayFollow front (view (get_or items i otherwise)).1 can
      → Expects front (map view (take (i + 1) items)) (map shown as_before)
  without_it names as_before can fails kept known may_not_stand =
      rw (next_kind, kept)
      (no_more front (map view (take i items)) (map shown names) (view (get_or items i otherwise)).0
      (view (get_or items i otherwise)).1 known
      (subst (λ (b : Bool). MayFollow front (view (get_or items i otherwise)).1 b) fails may_not_stand))
