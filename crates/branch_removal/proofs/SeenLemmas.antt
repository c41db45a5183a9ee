-- What an observer sees of a path that is made of parts; and a path is fine exactly where what is seen of it is.
use Rattle.std.proofs.Common.{◌≡◌, ℕ, List, [], ◌∷◌, ◌++◌, refl, sym, ap, ap₂, ◌∙◌, append_assoc, subst}
use Rattle.branch_removal.specs.Below.{AreFine, multiplied, P1, P2, Path, Profile, seen, shown_of}

-- what is seen of one path and then another
pub seen-append : (profile : Profile) (a b : Path) → seen profile (a ++ b) ≡ seen profile a ++ seen profile b
seen-append profile [] b = refl
seen-append profile (mark ∷ a) b =
    ap (λ (rest : Path). shown_of profile mark ++ rest) (seen-append profile a b)
    ∙ sym (append_assoc (shown_of profile mark) (seen profile a) (seen profile b))

-- so the same is seen where the same is seen of each
pub both_seen : (profile : Profile) (a b c d : Path) → seen profile a ≡ seen profile c
    → seen profile b ≡ seen profile d
    → seen profile (a ++ b) ≡ seen profile (c ++ d)
both_seen profile a b c d one other =
    seen-append profile a b ∙ (ap₂ (λ (p q : Path). p ++ q) one other ∙ sym (seen-append profile c d))

module _ (iterations : List ℕ) (profile : Profile) where
  -- what is seen of a fine path is fine
  pub fine_seen : (path : Path) → AreFine iterations path → AreFine iterations (seen profile path)
  fine_seen [] fine = tt
  fine_seen (multiplied left right ∷ rest) fine = by_profile profile (fine_seen rest fine.1)
    where
      by_profile : (p : Profile) → AreFine iterations (seen profile rest)
          → AreFine iterations (shown_of p (multiplied left right) ++ seen profile rest)
      by_profile P1 more = more
      by_profile P2 more = (tt, more)
  fine_seen (mark ∷ rest) fine = (fine.0, fine_seen rest fine.1)

  -- and a path is fine where what is seen of it is: a multiplication is no fault
  pub seen_fine : (path : Path) → AreFine iterations (seen profile path) → AreFine iterations path
  seen_fine [] fine = tt
  seen_fine (multiplied left right ∷ rest) fine = (tt, seen_fine rest (by_profile profile fine))
    where
      by_profile : (p : Profile) → AreFine iterations (shown_of p (multiplied left right) ++ seen profile rest)
          → AreFine iterations (seen profile rest)
      by_profile P1 more = more
      by_profile P2 more = more.1
  seen_fine (mark ∷ rest) fine = (fine.0, seen_fine rest fine.1)

  -- so of two paths of which the same is seen
  pub fine_alike : (a b : Path) → seen profile a ≡ seen profile b → AreFine iterations b → AreFine iterations a
  fine_alike a b same fine = seen_fine a (subst (AreFine iterations) (sym same) (fine_seen b fine))
