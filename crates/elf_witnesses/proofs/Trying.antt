-- Lists that are made item by item.
use Rattle.std.proofs.Common.{◌≡◌, ℕ, ◌+◌, ◌<◌, List, [], ◌∷◌, ◌++◌, length, get_or, take, map, add-one, sym, ap, ◌∙◌}
use Rattle.std.proofs.Common.{ap₂, append_assoc, drop, refl, ◌≤◌}
use Rattle.std.proofs.Math.ListN.{drop_of_length-le}
use Rattle.std.proofs.Math.Seq.{take-suc}
use Rattle.std.proofs.lemmas.List.{append-nil, drop_more, map-append}
use Rattle.rand_core.specs.Stream.{Stream}
use Rattle.elf_memory.specs.declared.asked.Setting.{Setting}
use Rattle.elf_witnesses.specs.Drawn.{drawn}
use Rattle.elf_witnesses.specs.Witnessed.{set_bytes}

-- one item more, which is like the next one of those that it is made from
pub one_more : {A B C : Type 0} (f : A → C) (g : B → C) (made : List A) (from : List B) (i : ℕ) (x : A) (y : B)
    → map f made ≡ map g (take i from) → i < length from → y ≡ get_or from i y → f x ≡ g y
    → map f (made ++ x ∷ []) ≡ map g (take (i + 1) from)
one_more f g made from i x y so_far within next alike =
    map-append f made (x ∷ [])
    ∙ ap₂ (λ l m. l ++ m ∷ []) so_far (alike ∙ ap g next)
    ∙ sym (map-append g (take i from) (get_or from i y ∷ []))
    ∙ ap (map g) (sym (take-suc from i y within))
    ∙ ap (λ n. map g (take n from)) (sym (add-one i))

-- what is drawn for so many, before what is drawn for the others
abbrev Begins : {A B : Type 0} → (B → Stream → List ℕ × Stream) → (A → B) → List A → List Setting → Stream
    → List (List ℕ) × Stream → Type 0
Begins draw f others made numbers all =
    let rest = drawn draw (map f others) numbers in all ≡ (map set_bytes made ++ rest.0, rest.1)

module _ {A B : Type 0} (draw : B → Stream → List ℕ × Stream) (f : A → B) (from : List A) (i : ℕ) where
  -- one more is drawn
  pub drawn_more : {all : List (List ℕ) × Stream} {now next : Stream} (x : A) (made : List Setting) (one : Setting)
      → i < length from → x ≡ get_or from i x → (one.bytes.items, next) ≡ draw (f x) now
      → Begins draw f (drop i from) made now all → Begins draw f (drop (i + 1) from) (made ++ one ∷ []) next all
  drawn_more {now = now} {next = next} x made one within is given before =
      let others = drop (i + 1) from in
      let cut : drop i from ≡ x ∷ others = drop_more from i x within ∙ ap (λ y. y ∷ others) (sym is) in
      let bytes = map set_bytes made in
      let rest = drawn draw (map f others) next in
      before
      ∙ ap (λ xs. let left = drawn draw (map f xs) now in (bytes ++ left.0, left.1)) cut
      ∙ ap (λ (first : List ℕ × Stream). let left = drawn draw (map f others) first.1 in
      (bytes ++ first.0 ∷ left.0, left.1)) (sym given)
      ∙ sym (ap (λ xs. (xs ++ rest.0, rest.1)) (map-append set_bytes made (one ∷ []))
      ∙ ap (λ xs. (xs, rest.1)) (append_assoc bytes (one.bytes.items ∷ []) rest.0))

  -- no other is left
  pub drawn_all : {all : List (List ℕ) × Stream} {now : Stream} (made : List Setting) → length from ≤ i
      → Begins draw f (drop i from) made now all → (map set_bytes made, now) ≡ all
  drawn_all {now = now} made none before =
      sym (before ∙ rw (drop_of_length-le from none, append-nil (map set_bytes made)) refl)
