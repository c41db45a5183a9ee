-- The bits of instructions, as they stand in code: RISC-V Unprivileged ISA, section "Expanded Instruction-Length
-- Encoding".
use Rattle.std.specs.Prelude.{ℕ, ◌+◌, ◌*◌, ◌%◌, ◌^◌, ◌==◌, Option, None, Some, if◌then◌else◌}
use Rattle.std.specs.Option.{option_map}
use Rattle.rv_programs.specs.Code.{halfwords, words}
use Rattle.elf_reports.specs.Below.{code_for, Executable, halfword_at, P1, ProgramCode, word_at}
use Rattle.elf_reports.specs.declared.encodings.Encoding.{Encoding}
use Rattle.elf_reports.specs.declared.encodings.Encoding.TheVariants.{Halfword, Word}

-- what begins with a halfword that this one follows, if one does: a word, whose low half it is, where its lowest two
-- bits are 11
abbrev pub encoding_by : Option ℕ → Option ℕ → Option Encoding
encoding_by None next = None
encoding_by (Some low) next =
    if low % 4 == 3 then option_map (λ high. Word (low + 2 ^ 16 * high)) next else Some (Halfword low)

-- what begins at an address of code, if anything does
abbrev pub encoding_in : ProgramCode → ℕ → Option Encoding
encoding_in (words code) a = option_map (λ word. Word word) (word_at code a)
encoding_in (halfwords code) a = encoding_by (halfword_at code a) (halfword_at code (a + 2))

-- the same of an executable. Whoever observes it, it is the same
abbrev pub encoding_at : Executable → ℕ → Option Encoding
encoding_at program address = encoding_in (code_for program P1 address) address
