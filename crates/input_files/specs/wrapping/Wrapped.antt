-- Code that was made elsewhere, as an image: the fields that are asked for, and the first rule that code, frame and
-- steps break.
use Rattle.std.specs.Prelude.{◌≡◌, ℕ, ◌%◌, ◌/◌, Bool, ◌&&◌, ◌==◌, if◌then◌else◌, List, length, map, Option, Some}
use Rattle.std.specs.Prelude.{None}
use Rattle.std.specs.List.{flat_map}
use Rattle.std.specs.Option.{option_map}
use Rattle.byteorder.specs.Endian.{little_bytes}
use Rattle.input_files.specs.Below.{accepts, AreBytes, Fields, is_frame_size, is_step_limit, is_word_count, IsImage}
use Rattle.input_files.specs.Below.{IsRefusalOf, IsWantOfMemory, Judges, layout_end, Param, param_of, ProcedureTree}
use Rattle.input_files.specs.Below.{ProgramTree, Refusal, ResultSlot, slots_end, slots_from, Spells, WordType}
use Rattle.input_files.specs.declared.wrapping.asked.Asked.{Asked}
use Rattle.input_files.specs.declared.wrapping.fault.CodeRule.{CodeRule}
use Rattle.input_files.specs.declared.wrapping.fault.CodeRule.TheVariants.{Length, Frame, Steps}
use Rattle.input_files.specs.declared.wrapping.fault.WrapFault.{WrapFault}
use Rattle.input_files.specs.declared.wrapping.fault.WrapFault.TheVariants.{Text, Code}

-- the words of code: it is their bytes in a row, of each word the lowest first
abbrev pub AreWordsOf : List ℕ → List ℕ → Type 0
AreWordsOf code words = flat_map (λ word. little_bytes 4 word) words ≡ code

-- the result's slot, where there is a result, behind slots that end at `low`
abbrev pub result_behind : ℕ → Option WordType → Option ResultSlot
result_behind low returned =
    option_map (λ word. record { kind = word.kind; label = word.label; offset = low }) returned

-- where all slots end: those of the parameters, from 0 on as `build` lays them out, and the result's behind them
abbrev pub end_of : List Param → Option WordType → ℕ
end_of params returned =
    let low = slots_end 0 (slots_from 0 params) in
    layout_end low (result_behind low returned)

-- code of so many bytes is whole words, and as many as an image may have
abbrev pub is_code_length : ℕ → Bool
is_code_length bytes = (bytes % 4 == 0) && is_word_count (bytes / 4)

-- the first rule that is broken by code of so many bytes, frame and steps, the slots ending at `low`
abbrev pub broken_rule : ℕ → ℕ → Asked → Option CodeRule
broken_rule low bytes asked =
    if is_code_length bytes then if is_frame_size low asked.frame_bytes then if is_step_limit asked.max_steps
    then None else Some Steps else Some Frame else Some Length

-- the fields that are asked for, of an export with these parameters and this result
pub record IsAskedFor (params : List Param) (returned : Option WordType) (code : List ℕ) (asked : Asked)
    (image : Fields) : Type 0 where
  pub unbroken : broken_rule (end_of params returned) (length code) asked ≡ None
  pub observed : image.profile ≡ asked.profile
  pub slots : image.slots ≡ slots_from 0 params
  pub result : image.returned ≡ result_behind (slots_end 0 (slots_from 0 params)) returned
  pub frame : image.frame_bytes ≡ asked.frame_bytes
  pub steps : image.max_steps ≡ asked.max_steps
  pub words : AreWordsOf code image.words
  pub allowed : IsImage image

-- the bytes are the image that is asked for, of code for the export of an accepted text: they spell the fields asked
-- for
pub record IsWrapped (text code : List ℕ) (asked : Asked) (bytes : List ℕ) : Type 0 where
  pub program : ProgramTree
  pub before : List ProcedureTree
  pub export : ProcedureTree
  pub image : Fields
  pub judged : Judges asked.profile text (accepts program before export)
  pub fields : IsAskedFor (map param_of export.parameters) export.result code asked image
  pub are_bytes : AreBytes bytes
  pub spelled : Spells bytes image

-- the text is accepted, and this is the first rule that code, frame and steps break
pub record Breaks (text code : List ℕ) (asked : Asked) (rule : CodeRule) : Type 0 where
  pub program : ProgramTree
  pub before : List ProcedureTree
  pub export : ProcedureTree
  pub judged : Judges asked.profile text (accepts program before export)
  pub first : broken_rule (end_of (map param_of export.parameters) export.result) (length code) asked ≡ Some rule

-- the text's refusal, or the rule that is broken
abbrev pub IsFaultOf : List ℕ → List ℕ → Asked → WrapFault Refusal → Type 0
IsFaultOf text code asked (Text refusal) = IsRefusalOf asked.profile text refusal
IsFaultOf text code asked (Code rule) = Breaks text code asked rule

-- out of memory, or a broken rule of which this holds
abbrev pub IsUnlessMemory : WrapFault Refusal → (CodeRule → Type 0) → Type 0
IsUnlessMemory (Text refusal) P = IsWantOfMemory refusal.rule refusal.place
IsUnlessMemory (Code rule) P = P rule
