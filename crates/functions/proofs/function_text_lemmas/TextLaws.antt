-- Of a text there is one function, and of a function one text for an assembler.
use Rattle.std.proofs.Common.{◌≡◌, ℕ, List, [], ◌∷◌, ◌++◌, map, codes, refl, sym, ap, ap₂, subst, ◌∙◌}
use Rattle.functions.specs.Below.{body_words, Fields, Instr, IsInstr, Optimisation, ProcedureTree, Profile, word_of}
use Rattle.functions.specs.declared.function_text.notation.Notation.{Notation}
use Rattle.functions.specs.function_text.AssemblerText.{body_start, code_line, entry_lines, exit_lines, head_lines}
use Rattle.functions.specs.function_text.AssemblerText.{instruction_text, IsAssemblerText, IsWordLine, line, ListsWords}
use Rattle.functions.specs.function_text.AssemblerText.{next_position, nothing, of_instruction, of_no_instruction}
use Rattle.functions.specs.function_text.AssemblerText.{tail_lines, title_line}
use Rattle.functions.specs.function_text.Functions.{Named, FunctionParts, IsFunctionOf, written_parameter}
use Rattle.functions.specs.function_text.HeaderText.{header_text}
use Rattle.functions.specs.function_text.Texts.{AreTextsOf}
use Rattle.functions.proofs.function_text_lemmas.Below.{one_export, one_image}
use Rattle.compilation.specs.Needs.{Needs}
use Rattle.compilation.specs.Exact.{frame_needs_for}
use Rattle.linked_calls.specs.declared.pace.Pace.{Pace}
use Rattle.syntax.specs.Reading.{OneAnswer}

same_parts : (name name' : List ℕ) (parameters parameters' : List Named) (image image' : Fields) (needs needs' : Needs)
    (pace pace' : Pace) → name ≡ name' → parameters ≡ parameters' → image ≡ image' → needs ≡ needs' → pace ≡ pace'
    → ◌≡◌ {A = FunctionParts}
    (record { name = name; parameters = parameters; image = image; needs = needs; pace = pace })
    (record { name = name'; parameters = parameters'; image = image'; needs = needs'; pace = pace' })
same_parts name name' parameters parameters' image image' needs needs' pace pace' names params images all_needs paces = cc

pub one_function : OneAnswer → (optimisation : Optimisation) (profile : Profile) (prefix source : List ℕ)
    (one other : FunctionParts)
    → IsFunctionOf optimisation profile prefix source one → IsFunctionOf optimisation profile prefix source other
    → one ≡ other
one_function answer optimisation profile prefix source one other a b =
    let same = one_export profile answer source a.program b.program a.before b.before a.export b.export
    a.compilation.judged b.compilation.judged in
    same_parts one.name other.name one.parameters other.parameters one.image other.image one.needs other.needs one.pace
    other.pace
    (a.name ∙ ap (λ (p : ProcedureTree). prefix ++ p.name) same.2 ∙ sym b.name)
    (a.parameters ∙ ap (λ (p : ProcedureTree). map (written_parameter (prefix ++ p.name)) p.parameters) same.2
    ∙ sym b.parameters)
    (one_image answer optimisation profile source a.program b.program a.before b.before a.export b.export one.image
    other.image a.compilation b.compilation)
    (a.needs ∙ ap₂ (frame_needs_for optimisation profile) same.1 same.2 ∙ sym b.needs)
    (a.pace ∙ sym b.pace)

-- Texts.

module _ (differ : (i j : Instr) → IsInstr i → IsInstr j → word_of i ≡ word_of j → i ≡ j) (notation : Notation) where
  same_line : (name : List ℕ) (at word : ℕ) (one other : List ℕ) → IsWordLine notation name at word one
      → IsWordLine notation name at word other → one ≡ other
  same_line name at word one other (of_instruction i in_range is) (of_instruction j in_range' is') =
      ap (λ (k : Instr). code_line notation name at (instruction_text notation name at k))
      (differ i j in_range in_range' (is ∙ sym is'))
  same_line name at word one other (of_instruction i in_range is) (of_no_instruction none) =
      absurd (none i in_range is)
  same_line name at word one other (of_no_instruction none) (of_instruction j in_range is) =
      absurd (none j in_range is)
  same_line name at word one other (of_no_instruction none) (of_no_instruction none') = refl

  same_lines : (name : List ℕ) (at : ℕ) (words one other : List ℕ) → ListsWords notation name at words one
      → ListsWords notation name at words other → one ≡ other
  same_lines name at [] one other nothing nothing = refl
  same_lines name at (word ∷ words) one other (line {told = told} {rest = rest} of listed)
      (line {told = told'} {rest = rest'} of' listed') =
      ap₂ (λ (a b : List ℕ). a ++ b) (same_line name at word told told' of of')
      (same_lines name (next_position at) words rest rest' listed listed')

  one_text : (f : FunctionParts) (one other : List ℕ) → IsAssemblerText notation f one
      → IsAssemblerText notation f other → one ≡ other
  one_text f one other a b =
      a.whole
      ∙ ap (λ (body : List ℕ). head_lines f ++ entry_lines notation f
      ++ (title_line (codes "the body") ++ body)
      ++ exit_lines notation f ++ tail_lines notation f)
      (same_lines f.name (body_start f) (body_words f.image.words) a.body b.body a.listed b.listed)
      ∙ sym b.whole

  pub one_pair : OneAnswer
      → (optimisation : Optimisation) (profile : Profile) (prefix source : List ℕ)
      (assembler header assembler' header' : List ℕ)
      → AreTextsOf optimisation profile prefix notation source assembler header
      → AreTextsOf optimisation profile prefix notation source assembler' header'
      → (assembler ≡ assembler') × (header ≡ header')
  one_pair answer optimisation profile prefix source assembler header assembler' header' a b =
      let same = one_function answer optimisation profile prefix source a.parts b.parts a.function b.function in (
        one_text b.parts assembler assembler'
            (subst (λ (f : FunctionParts). IsAssemblerText notation f assembler) same a.assembled)
            b.assembled,
        a.declared ∙ ap header_text same ∙ sym b.declared,
      )
