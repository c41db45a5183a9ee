-- The texts of sections, one after another.
use Rattle.std.proofs.Common.{◌≡◌, ℕ, ◌+◌, ◌%◌, ◌^◌, ◌<◌, arith, List, [], ◌∷◌, ◌++◌, length, drop, get_or, refl, sym, ap, ap₂, ◌∙◌, append_assoc}
use Rattle.std.proofs.lemmas.List.{drop_more}
use Rattle.functions.specs.Below.{body_words, code_of, enter_sections, Instr, last_sections, leave_sections}
use Rattle.functions.specs.Below.{section_code}
use Rattle.functions.specs.declared.function_text.notation.Notation.{Notation}
use Rattle.functions.specs.function_text.AssemblerText.{behind, behind_lines, body_start, entry_lines, from_body}
use Rattle.functions.specs.function_text.AssemblerText.{next_position, section_lines, sections_lines}
use Rattle.functions.specs.function_text.Functions.{FunctionParts}
use Rattle.linked_calls.proofs.Distances.{code_is_placed}
use Rattle.linked_calls.specs.declared.pace.Pace.{Pace}
use Rattle.linked_calls.specs.declared.section.Section.{Section}

-- the position behind two lists
pub behind_both : {A : Type 0} (at : ℕ) (xs ys : List A) → behind at (xs ++ ys) ≡ behind (behind at xs) ys
behind_both at [] ys = refl
behind_both at (x ∷ xs) ys = behind_both (next_position at) xs ys

module _ (notation : Notation) (name : List ℕ) (f : FunctionParts) (distance : ℕ) (sections : List Section) (i : ℕ) (section : Section)
    (some : i < length sections) where
  abbrev first : Section
  first = get_or sections i section

  abbrev rest : List Section
  rest = drop (i + 1) sections

  parts : drop i sections ≡ first ∷ rest
  parts = drop_more sections i section some

  -- the text so far
  pub text_on : (old new all : List ℕ) (start at : ℕ) (code : List Instr)
      → new ≡ old ++ section_lines notation name f.image first start code
      → code ≡ section_code f.image f.pace (length (code_of f.image f.pace distance rest) + distance) first
      → at ≡ behind start code
      → old ++ sections_lines notation name f distance start (drop i sections) ≡ all
      → new ++ sections_lines notation name f distance at rest ≡ all
  text_on old new all start at code pushed code_is at_is held =
      let lines = section_lines notation name f.image first start code in
      ap₂ (λ (xs : List ℕ) (p : ℕ). xs ++ sections_lines notation name f distance p rest) pushed at_is
      ∙ append_assoc old lines (sections_lines notation name f distance (behind start code) rest)
      ∙ ap (λ (xs : List Instr). old
      ++ (section_lines notation name f.image first start xs ++ sections_lines notation name f distance (behind start xs) rest)) code_is
      ∙ ap (λ (xs : List Section). old ++ sections_lines notation name f distance start xs) (sym parts)
      ∙ held

  -- and where it ends
  pub ends_on : (start at total : ℕ) (code : List Instr)
      → code ≡ section_code f.image f.pace (length (code_of f.image f.pace distance rest) + distance) first
      → at ≡ behind start code
      → behind start (code_of f.image f.pace distance (drop i sections)) ≡ total
      → behind at (code_of f.image f.pace distance rest) ≡ total
  ends_on start at total code code_is at_is held =
      let later = code_of f.image f.pace distance rest in
      ap (λ (p : ℕ). behind p later) (at_is ∙ ap (λ (xs : List Instr). behind start xs) code_is)
      ∙ sym (behind_both start (section_code f.image f.pace (length later + distance) first) later)
      ∙ ap (λ (xs : List Section). behind start (code_of f.image f.pace distance xs)) (sym parts)
      ∙ held

module _ (notation : Notation) (f : FunctionParts) where
  -- what lies further than addresses go makes no difference
  lines_same : (m n : ℕ) → m % 2 ^ 32 ≡ n % 2 ^ 32 → (at : ℕ) (sections : List Section)
      → sections_lines notation f.name f m at sections ≡ sections_lines notation f.name f n at sections
  lines_same m n same at [] = refl
  lines_same m n same at (section ∷ sections) =
      let one = length (code_of f.image f.pace m sections) + m in
      let other = length (code_of f.image f.pace n sections) + n in
      let count = (code_is_placed f.image f.pace m n).all_count sections in
      let code = section_code f.image f.pace other section in
      ap (λ (xs : List Instr). section_lines notation f.name f.image section at xs
      ++ sections_lines notation f.name f m (behind at xs) sections)
      ((code_is_placed f.image f.pace one other).same (omega arith) section)
      ∙ ap (λ (ys : List ℕ). section_lines notation f.name f.image section at code ++ ys) (lines_same m n same (behind at code) sections)

  -- the entry, whose distance is known as far as addresses go
  module _ (distance : ℕ) (at : Pace) (enter leave : List Section) (enter_is : enter ≡ enter_sections f.image f.needs f.pace)
      (leave_is : leave ≡ leave_sections f.image f.pace) (at_is : at ≡ f.pace)
      (is : distance ≡ (length (body_words f.image.words) + length (code_of f.image at 0 leave)) % 2 ^ 32) where
    far : distance ≡ from_body f % 2 ^ 32
    far = is ∙ ap₂ (λ (p : Pace) (xs : List Section).
        (length (body_words f.image.words) + length (code_of f.image p 0 xs)) % 2 ^ 32) at_is leave_is

    pub entry_is : (old one : List ℕ) → one ≡ old ++ sections_lines notation f.name f distance 0 enter
        → one ≡ old ++ entry_lines notation f
    entry_is old one told =
        let distant = far in
        told
        ∙ ap (λ (ys : List ℕ). old ++ ys)
        (lines_same distance (from_body f) (omega arith) 0 enter
        ∙ ap (λ (xs : List Section). sections_lines notation f.name f (from_body f) 0 xs) enter_is)

    pub begins : (end : ℕ) → end ≡ behind 0 (code_of f.image f.pace distance enter) → end ≡ body_start f
    begins end told =
        let distant = far in
        told
        ∙ ap (λ (xs : List Instr). behind 0 xs)
        ((code_is_placed f.image f.pace distance (from_body f)).all_same (omega arith) enter
        ∙ ap (λ (xs : List Section). code_of f.image f.pace (from_body f) xs) enter_is)

  -- and what stands behind the body
  pub exit_is : (start end : ℕ) (old one two : List ℕ) (leave last : List Section)
      → one ≡ old ++ sections_lines notation f.name f 0 start leave → end ≡ behind start (code_of f.image f.pace 0 leave)
      → two ≡ one ++ sections_lines notation f.name f 0 end last
      → leave ≡ leave_sections f.image f.pace → last ≡ last_sections f.image f.pace
      → two ≡ old ++ behind_lines notation f start
  exit_is start end old one two leave last one_is end_is two_is leave_is last_is =
      rw (two_is, one_is, end_is, leave_is, last_is)
      (append_assoc old (sections_lines notation f.name f 0 start (leave_sections f.image f.pace))
      (sections_lines notation f.name f 0 (behind start (code_of f.image f.pace 0 (leave_sections f.image f.pace)))
      (last_sections f.image f.pace)))
