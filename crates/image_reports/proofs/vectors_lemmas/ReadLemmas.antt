-- The vectors of the lines so far, and of those that are left.
use Rattle.std.proofs.Common.{◌≡◌, ℕ, ◌+◌, ◌<◌, ◌≤◌, false, true, if◌then◌else◌, List, [], ◌∷◌, ◌++◌, get_or, drop}
use Rattle.std.proofs.Common.{length, map, Option, Some, None, Result, Ok, Err, refl, sym, ap, ◌∙◌, append_assoc}
use Rattle.std.proofs.lemmas.List.{at_drop_more, at_drop_all}
use Rattle.image_reports.specs.vectors.Lines.{NamedVector, says_nothing, vector_of, with_vector, vectors_from}

-- vectors before those of later lines
abbrev pub behind : List NamedVector → Result (List NamedVector) ℕ → Result (List NamedVector) ℕ
behind front (Ok vectors) = Ok (front ++ vectors)
behind front (Err line) = Err line

pub behind-none : (later : Result (List NamedVector) ℕ) → behind [] later ≡ later
behind-none (Ok vectors) = refl
behind-none (Err line) = refl

behind-more : (front : List NamedVector) (vector : NamedVector) (number : ℕ) (later : Result (List NamedVector) ℕ)
    → behind front (with_vector number (Some vector) later) ≡ behind (front ++ vector ∷ []) later
behind-more front vector number (Ok vectors) = ap Ok (sym (append_assoc front (vector ∷ []) vectors))
behind-more front vector number (Err line) = refl

module _ {A : Type 0} (view : A → List ℕ) (lines : List A) where
  -- what the lines from a place on say
  abbrev pub left : ℕ → Result (List NamedVector) ℕ
  left i = vectors_from (i + 1) (map view (drop i lines))

  module _ (front : List NamedVector) (i : ℕ) (d : A) (h : i < length lines) where
    iteration : left i ≡ (if says_nothing (view (get_or lines i d)) then left (i + 1)
        else with_vector (i + 1) (vector_of (view (get_or lines i d))) (left (i + 1)))
    iteration = at_drop_more (λ rest. vectors_from (i + 1) (map view rest)) lines i d h

    abbrev by : Option NamedVector → Result (List NamedVector) ℕ
    by said = with_vector (i + 1) said (left (i + 1))

    pub left-nothing : says_nothing (view (get_or lines i d)) ≡ true → left i ≡ left (i + 1)
    left-nothing e = iteration ∙ ap (λ b. if b then left (i + 1) else by (vector_of (view (get_or lines i d)))) e

    pub left-vector : (vector : NamedVector) → says_nothing (view (get_or lines i d)) ≡ false
        → Some vector ≡ vector_of (view (get_or lines i d))
        → behind front (left i) ≡ behind (front ++ vector ∷ []) (left (i + 1))
    left-vector vector e is =
        ap (behind front) (iteration ∙ ap (λ b. if b then left (i + 1) else by (vector_of (view (get_or lines i d)))) e
        ∙ ap by (sym is)) ∙ behind-more front vector (i + 1) (left (i + 1))

    pub left-formless : says_nothing (view (get_or lines i d)) ≡ false → None ≡ vector_of (view (get_or lines i d))
        → behind front (left i) ≡ Err (i + 1)
    left-formless e is =
        ap (behind front) (iteration ∙ ap (λ b. if b then left (i + 1) else by (vector_of (view (get_or lines i d)))) e
        ∙ ap by (sym is))

  pub left-end : (i : ℕ) → length lines ≤ i → left i ≡ Ok []
  left-end i h = at_drop_all (λ rest. vectors_from (i + 1) (map view rest)) lines i h
