-- How many instructions sections have, as far as addresses go, and what their code is by that, section by section.
use Rattle.std.proofs.Common.{◌≡◌, ℕ, ◌+◌, ◌-◌, ◌%◌, ◌^◌, ◌<◌, List, ◌∷◌, ◌++◌, length, map, drop, get_or, sym}
use Rattle.std.proofs.Common.{ap, ◌∙◌, arith, append_assoc, length-append}
use Rattle.std.proofs.lemmas.List.{drop_more, map-append}
use Rattle.functions.specs.Below.{code_of, Fields, Instr, section_code, word_of}
use Rattle.linked_calls.proofs.Distances.{code_is_placed}
use Rattle.linked_calls.specs.declared.pace.Pace.{Pace}
use Rattle.linked_calls.specs.declared.section.Section.{Section}

module _ (image : Fields) (pace : Pace) where
  -- one section, and those behind it
  pub count_one : (section : Section) (rest : List Section)
      → length (code_of image pace 0 (section ∷ rest))
      ≡ length (section_code image pace 0 section) + length (code_of image pace 0 rest)
  count_one section rest =
      let behind = code_of image pace 0 rest in
      omega (
        arith,
        length-append (section_code image pace (length behind + 0) section) behind,
        (code_is_placed image pace (length behind + 0) 0).count section,
      )

  -- the code of the first, where all have so many
  pub next_is : (behind left own : ℕ) (section : Section) (rest : List Section)
      → left ≡ length (code_of image pace 0 (section ∷ rest)) % 2 ^ 32
      → own ≡ length (section_code image pace 0 section) % 2 ^ 32
      → section_code image pace (((left + (2 ^ 32 - own)) % 2 ^ 32 + behind) % 2 ^ 32) section
      ≡ section_code image pace (length (code_of image pace behind rest) + behind) section
  next_is behind left own section rest left_is own_is =
      let one = count_one section rest in
      let same = (code_is_placed image pace 0 behind).all_count rest in
      (code_is_placed image pace (((left + (2 ^ 32 - own)) % 2 ^ 32 + behind) % 2 ^ 32)
      (length (code_of image pace behind rest) + behind)).same (omega arith) section

  module _ (sections : List Section) (i : ℕ) (section : Section) (some : i < length sections) where
    abbrev first : Section
    first = get_or sections i section

    abbrev rest : List Section
    rest = drop (i + 1) sections

    parts : drop i sections ≡ first ∷ rest
    parts = drop_more sections i section some

    -- how many there are so far
    pub counted_on : (count own total : ℕ) → own ≡ length (section_code image pace 0 first) % 2 ^ 32
        → (count + length (code_of image pace 0 (drop i sections))) % 2 ^ 32 ≡ total
        → ((count + own) % 2 ^ 32 + length (code_of image pace 0 rest)) % 2 ^ 32 ≡ total
    counted_on count own total own_is all =
        let one = count_one first rest in
        let more = ap (λ (xs : List Section). length (code_of image pace 0 xs)) parts in
        omega arith

    -- how many are left
    pub left_first : (left : ℕ) → left ≡ length (code_of image pace 0 (drop i sections)) % 2 ^ 32
        → left ≡ length (code_of image pace 0 (first ∷ rest)) % 2 ^ 32
    left_first left is = is ∙ ap (λ (xs : List Section). length (code_of image pace 0 xs) % 2 ^ 32) parts

    pub left_on : (left count place : ℕ) (code : List Instr)
        → left ≡ length (code_of image pace 0 (drop i sections)) % 2 ^ 32
        → code ≡ section_code image pace place first
        → count ≡ length code % 2 ^ 32
        → (left + (2 ^ 32 - count)) % 2 ^ 32 ≡ length (code_of image pace 0 rest) % 2 ^ 32
    left_on left count place code left_is code_is count_is =
        let one = count_one first rest in
        let begun = left_first left left_is in
        let same = (code_is_placed image pace place 0).count first in
        let mine = ap (λ (xs : List Instr). length xs) code_is in
        omega arith

    pub code_parts : (behind : ℕ)
        → code_of image pace behind (drop i sections)
        ≡ section_code image pace (length (code_of image pace behind rest) + behind) first ++ code_of image pace behind rest
    code_parts behind = ap (λ (xs : List Section). code_of image pace behind xs) parts

    -- the words so far
    pub words_on : (behind : ℕ) (old new all : List ℕ) (code : List Instr) → new ≡ old ++ map word_of code
        → code ≡ section_code image pace (length (code_of image pace behind rest) + behind) first
        → old ++ map word_of (code_of image pace behind (drop i sections)) ≡ all
        → new ++ map word_of (code_of image pace behind rest) ≡ all
    words_on behind old new all code pushed code_is held =
        let later = code_of image pace behind rest in
        ap (λ (xs : List ℕ). xs ++ map word_of later)
        (pushed ∙ ap (λ (xs : List Instr). old ++ map word_of xs) code_is)
        ∙ append_assoc old (map word_of (section_code image pace (length later + behind) first)) (map word_of later)
        ∙ ap (λ (xs : List ℕ). old ++ xs)
        (sym (map-append word_of (section_code image pace (length later + behind) first) later)
        ∙ ap (λ (xs : List Instr). map word_of xs) (sym (code_parts behind)))
        ∙ held
