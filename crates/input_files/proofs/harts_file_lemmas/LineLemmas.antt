-- The lines of a text, and that each of them is UTF-8 where the text is.
use Rattle.std.proofs.Common.{◌≡◌, ℕ, ◌<◌, ◌+◌, ◌==◌, if◌then◌else◌, List, [], ◌∷◌, ◌++◌, length, get_or, take, drop}
use Rattle.std.proofs.Common.{refl, sym, ap, subst, ◌∙◌, arith, ne_eqb, length-append}
use Rattle.std.proofs.lemmas.List.{get_or-append-add}
use Rattle.std.proofs.lemmas.List.Splits.{slice_split_none, slice_split_at, length-slice_split}
use Rattle.std.proofs.lemmas.Str.{IsCharBoundary-before_ascii, IsCharBoundary-from_take, IsUtf8-drop, IsUtf8-take}
use Rattle.std.specs.List.{slice_split}
use Rattle.std.specs.Str.{IsUtf8}
use Rattle.input_files.specs.harts_file.Lines.{without_empty_end, lines_of}
use Rattle.input_files.specs.harts_file.private.Reading.{OnOneLine}

more_parts : (part : List ℕ) (parts : List (List ℕ)) → 0 < length parts
    → without_empty_end (part ∷ parts) ≡ part ∷ without_empty_end parts
more_parts part [] h = absurd (omega arith)
more_parts part (next ∷ parts) h = refl

-- a line that has ended, and those behind it
pub line_ended : (line rest : List ℕ) → OnOneLine line → lines_of (line ++ 10 ∷ rest) ≡ line ∷ lines_of rest
line_ended line rest alone =
    let parts : 0 < length (slice_split (λ b. b == 10) rest) =
    omega (arith, length-slice_split (λ b. b == 10) rest) in
    ap without_empty_end (slice_split_at (λ b. b == 10) line 10 rest alone refl)
    ∙ more_parts line (slice_split (λ b. b == 10) rest) parts

-- one that has not
pub line_left : (line : List ℕ) → OnOneLine line → (length line ≡ 0 → ⊥) → lines_of line ≡ line ∷ []
line_left line alone some =
    ap without_empty_end (slice_split_none (λ b. b == 10) line alone)
    ∙ ap (λ b. if b then [] else line ∷ []) (ne_eqb (length line) 0 some)

-- ---- UTF-8
take_front : (front rest : List ℕ) → take (length front) (front ++ rest) ≡ front
take_front [] rest = refl
take_front (x ∷ front) rest = ap (λ xs. x ∷ xs) (take_front front rest)

drop_front : (front rest : List ℕ) → drop (length front) (front ++ rest) ≡ rest
drop_front [] rest = refl
drop_front (x ∷ front) rest = drop_front front rest

pub utf8_behind : (front rest : List ℕ) → IsUtf8 front → IsUtf8 (front ++ rest) → IsUtf8 rest
utf8_behind front rest first whole =
    let n = length front in
    subst IsUtf8 (drop_front front rest)
    (IsUtf8-drop (front ++ rest) n whole
    (IsCharBoundary-from_take (front ++ rest) n whole (omega (arith, length-append front rest))
    (subst IsUtf8 (sym (take_front front rest)) first)))

pub utf8_line : (line rest : List ℕ) → IsUtf8 (line ++ 10 ∷ rest) → IsUtf8 line
utf8_line line rest whole =
    let n = length line in
    let feed : get_or (line ++ 10 ∷ rest) (n + 0) 0 ≡ 10 = get_or-append-add line (10 ∷ rest) 0 0 in
    let here : n + 0 ≡ n = omega arith in
    let small : get_or (line ++ 10 ∷ rest) n 0 < 128 = omega (arith, ap (λ k. get_or (line ++ 10 ∷ rest) k 0) here, feed) in
    subst IsUtf8 (take_front line (10 ∷ rest))
    (IsUtf8-take (line ++ 10 ∷ rest) n whole
    (IsCharBoundary-before_ascii (line ++ 10 ∷ rest) n (omega (arith, length-append line (10 ∷ rest))) small))
