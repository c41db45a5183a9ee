-- The words of a function, section by section.
use Rattle.std.proofs.Common.{◌≡◌, ℕ, ◌+◌, ◌%◌, ◌^◌, List, [], ◌++◌, length, map, ap, ap₂, ◌∙◌, arith}
use Rattle.functions.specs.Below.{body_words, code_of, enter_sections, Fields, function_words, Instr, last_sections}
use Rattle.functions.specs.Below.{leave_sections, word_of}
use Rattle.compilation.specs.Needs.{Needs}
use Rattle.linked_calls.proofs.Distances.{code_is_placed}
use Rattle.linked_calls.proofs.SectionLemmas.{words_of_sections}
use Rattle.linked_calls.specs.declared.pace.Pace.{Pace}
use Rattle.linked_calls.specs.declared.section.Section.{Section}

module _ (image : Fields) (needs : Needs) (pace : Pace) where
  -- how many there are from the body on up to the last section
  abbrev pub from_body : ℕ
  from_body = length (body_words image.words) + length (code_of image pace 0 (leave_sections image pace))

  pub entered : (behind : ℕ) → behind ≡ from_body % 2 ^ 32
      → code_of image pace behind (enter_sections image needs pace)
      ≡ code_of image pace from_body (enter_sections image needs pace)
  entered behind is = (code_is_placed image pace behind from_body).all_same (omega arith) (enter_sections image needs pace)

  pub all_words : (behind : ℕ) → behind ≡ from_body % 2 ^ 32
      → map word_of (code_of image pace behind (enter_sections image needs pace)) ++ body_words image.words
      ++ map word_of (code_of image pace 0 (leave_sections image pace))
      ++ map word_of (code_of image pace 0 (last_sections image pace))
      ≡ function_words image needs pace 0
  all_words behind is =
      ap (λ (before : List Instr). map word_of before ++ body_words image.words
      ++ map word_of (code_of image pace 0 (leave_sections image pace))
      ++ map word_of (code_of image pace 0 (last_sections image pace)))
      (entered behind is)
      ∙ words_of_sections image needs pace

  -- put behind one another
  pub all_pushed : (none entered embodied left whole : List ℕ) (at : Pace) (behind : ℕ)
      (enter leave last : List Section)
      → none ≡ [] → entered ≡ none ++ map word_of (code_of image at behind enter)
      → embodied ≡ entered ++ body_words image.words
      → left ≡ embodied ++ map word_of (code_of image at 0 leave)
      → whole ≡ left ++ map word_of (code_of image at 0 last)
      → enter ≡ enter_sections image needs pace → leave ≡ leave_sections image pace → last ≡ last_sections image at
      → at ≡ pace
      → behind ≡ (length (body_words image.words) + length (code_of image at 0 leave)) % 2 ^ 32
      → whole ≡ function_words image needs pace 0
  all_pushed none first_words second_words third_words whole at behind enter leave last first second third fourth
      fifth enter_is leave_is last_is at_is behind_is =
      fifth
      ∙ ap₂ (λ (xs : List ℕ) (ls : List Section). xs ++ map word_of (code_of image at 0 ls))
      (fourth
      ∙ ap₂ (λ (xs : List ℕ) (ls : List Section). xs ++ map word_of (code_of image at 0 ls))
      (third
      ∙ ap (λ (xs : List ℕ). xs ++ body_words image.words)
      (second
      ∙ ap₂ (λ (xs : List ℕ) (ls : List Section). xs ++ map word_of (code_of image at behind ls)) first enter_is))
      leave_is)
      last_is
      ∙ ap (λ (p : Pace). map word_of (code_of image p behind (enter_sections image needs pace)) ++ body_words image.words
      ++ map word_of (code_of image p 0 (leave_sections image pace))
      ++ map word_of (code_of image p 0 (last_sections image p)))
      at_is
      ∙ all_words behind
      (behind_is
      ∙ ap₂ (λ (p : Pace) (ls : List Section). (length (body_words image.words) + length (code_of image p 0 ls)) % 2 ^ 32)
      at_is leave_is)
