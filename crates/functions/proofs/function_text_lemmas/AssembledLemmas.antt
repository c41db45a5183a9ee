-- The parts of a text for an assembler, put behind one another.
use Rattle.std.proofs.Common.{◌≡◌, ℕ, List, [], ◌∷◌, ◌++◌, codes, ap, ap₂, append_assoc, subst, ◌∙◌}
use Rattle.functions.specs.Below.{body_words, wipe_code}
use Rattle.linked_calls.specs.declared.section.Section.{Section}
use Rattle.linked_calls.specs.declared.section.Section.TheVariants.{ClearedRegisters, Return}
use Rattle.functions.specs.declared.function_text.notation.Notation.{Notation}
use Rattle.functions.specs.function_text.AssemblerText.{behind, behind_lines, body_start, entry_lines, exit_lines}
use Rattle.functions.specs.function_text.AssemblerText.{exit_start, head_lines, IsAssemblerText, ListsWords}
use Rattle.functions.specs.function_text.AssemblerText.{sections_lines, shared_lines, shared_part_lines}
use Rattle.functions.specs.function_text.AssemblerText.{shared_place_lines, shared_wiping_lines, size_lines}
use Rattle.functions.specs.function_text.AssemblerText.{tail_lines, tail_name, title_line}
use Rattle.functions.specs.function_text.Functions.{FunctionParts}

-- behind the function's words

three : (old a b c : List ℕ) → old ++ a ++ b ++ c ≡ old ++ (a ++ b ++ c)
three old a b c = simp append_assoc

pub four : (old a b c d : List ℕ) → old ++ a ++ b ++ c ++ d ≡ old ++ (a ++ b ++ c ++ d)
four old a b c d = simp append_assoc

module _ (notation : Notation) (f : FunctionParts) where
  abbrev cleared : List Section
  cleared = ClearedRegisters ∷ Return ∷ []

  pub shared_are : (old placed wiped all : List ℕ) (at : ℕ)
      → placed ≡ old ++ shared_place_lines → wiped ≡ placed ++ shared_wiping_lines notation f
      → at ≡ behind 0 (wipe_code 16) → all ≡ wiped ++ sections_lines notation tail_name f 0 at cleared
      → all ++ size_lines tail_name ≡ old ++ shared_lines notation f
  shared_are old placed wiped all at place wipe at_is clear =
      ap (λ (xs : List ℕ). xs ++ size_lines tail_name)
      (clear
      ∙ ap₂ (λ (xs : List ℕ) (p : ℕ). xs ++ sections_lines notation tail_name f 0 p cleared)
      (wipe ∙ ap (λ (xs : List ℕ). xs ++ shared_wiping_lines notation f) place) at_is)
      ∙ four old shared_place_lines (shared_wiping_lines notation f)
      (sections_lines notation tail_name f 0 (behind 0 (wipe_code 16)) cleared) (size_lines tail_name)

  pub tail_are : (old sized parted : List ℕ) → sized ≡ old ++ size_lines f.name
      → parted ≡ sized ++ shared_part_lines notation f f.pace
      → parted ++ codes "    .option pop\n" ≡ old ++ tail_lines notation f
  tail_are old sized parted size part =
      ap (λ (xs : List ℕ). xs ++ codes "    .option pop\n")
      (part ∙ ap (λ (xs : List ℕ). xs ++ shared_part_lines notation f f.pace) size)
      ∙ three old (size_lines f.name) (shared_part_lines notation f f.pace) (codes "    .option pop\n")

module _ (notation : Notation) (f : FunctionParts) (start headed entered embodied left whole : List ℕ)
    (from to : ℕ) where
  -- where the body begins, and where it ends
  pub assembled : start ≡ [] → headed ≡ start ++ head_lines f → entered ≡ headed ++ entry_lines notation f
      → from ≡ body_start f
      → (body : (lines : List ℕ) × ListsWords notation f.name from (body_words f.image.words) lines
      × (embodied ≡ entered ++ (title_line (codes "the body") ++ lines)))
      → to ≡ behind from (body_words f.image.words)
      → left ≡ embodied ++ behind_lines notation f to → whole ≡ left ++ tail_lines notation f
      → IsAssemblerText notation f whole
  assembled empty head enter begins body ends leave tail =
      let ends_so : to ≡ exit_start f =
      ends ∙ ap (λ (at : ℕ). behind at (body_words f.image.words)) begins in
      let left_so : left ≡ embodied ++ exit_lines notation f =
      subst (λ (at : ℕ). left ≡ embodied ++ behind_lines notation f at) ends_so leave in
      record {
        body = body.0;
        listed =
            subst (λ (at : ℕ). ListsWords notation f.name at (body_words f.image.words) body.0) begins body.1;
        whole = simp (tail, left_so, body.2, enter, head, empty);
      }
