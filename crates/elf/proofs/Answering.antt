-- What is answered, by which list of checks is broken first.
use Rattle.std.proofs.Common.{◌≡◌, ◌++◌, ◌∙◌, ℕ, Bool, List, None, Some, Result, Ok, Err, refl, sym}
use Rattle.std.specs.Result.{IsErrAnd}
use Rattle.elf.specs.Checks.{IsTold, first_broken}
use Rattle.elf.specs.Header.{entry_of, header_checks, is_compressed}
use Rattle.elf.specs.Reading.{Executable, IsUnlessMemory, fault_of, program_of, reading}
use Rattle.elf.specs.Segments.{LoadedSegment, segment_checks, segments_of}
use Rattle.elf.specs.Symbols.{string_bytes_of, symbol_checks, symbols_of, table_bytes, table_of}
use Rattle.elf.specs.declared.fault.Broken.{Broken}
use Rattle.elf.specs.declared.fault.ElfFault.{ElfFault}
use Rattle.elf.specs.declared.fault.ElfFault.TheVariants.{File, Memory}
use Rattle.elf.specs.declared.symbol.Symbol.{Symbol}
use Rattle.elf.proofs.Broken.{broken_before, held_before}

header_fault : (file : List ℕ) (broken : Broken) → first_broken (header_checks file) ≡ Some broken
    → fault_of file ≡ Some broken
unfolding fault_of
header_fault file broken h =
    broken_before (header_checks file ++ segment_checks file) (symbol_checks file) broken
    (broken_before (header_checks file) (segment_checks file) broken h)

segment_fault : (file : List ℕ) (broken : Broken) → first_broken (header_checks file) ≡ None
    → first_broken (segment_checks file) ≡ Some broken → fault_of file ≡ Some broken
unfolding fault_of
segment_fault file broken header h =
    broken_before (header_checks file ++ segment_checks file) (symbol_checks file) broken
    (held_before (header_checks file) (segment_checks file) header ∙ h)

pub last_checks : (file : List ℕ) → first_broken (header_checks file) ≡ None
    → first_broken (segment_checks file) ≡ None → fault_of file ≡ first_broken (symbol_checks file)
unfolding fault_of
last_checks file header segments =
    held_before (header_checks file ++ segment_checks file) (symbol_checks file)
    (held_before (header_checks file) (segment_checks file) header ∙ segments)

pub refused : (result : Result Executable ElfFault) (broken : Broken) (file : List ℕ)
    → IsErrAnd result (λ e. e ≡ File broken.rule broken.at) → fault_of file ≡ Some broken
    → IsUnlessMemory result (reading file)
refused (Ok program) broken file h is = absurd h
refused (Err e) broken file h is = rw (h, is) refl

pub header_refused : (result : Result Executable ElfFault) (broken : Broken) (file : List ℕ)
    → IsErrAnd result (λ e. e ≡ File broken.rule broken.at) → first_broken (header_checks file) ≡ Some broken
    → IsUnlessMemory result (reading file)
header_refused result broken file h is = refused result broken file h (header_fault file broken is)

pub segment_refused : (result : Result Executable ElfFault) (fault : ElfFault) (file : List ℕ)
    → IsErrAnd result (λ e. e ≡ fault) → first_broken (header_checks file) ≡ None
    → IsTold fault (segment_checks file) → IsUnlessMemory result (reading file)
segment_refused (Ok program) fault file h header is = absurd h
segment_refused (Err e) (File rule at) file h header is =
    let broken : Broken = record { rule = rule; at = at } in
    refused (Err e) broken file h (segment_fault file broken header is)
segment_refused (Err e) Memory file h header is = rw h tt

pub symbol_refused : (result : Result Executable ElfFault) (broken : Broken) (file : List ℕ)
    → IsErrAnd result (λ e. e ≡ File broken.rule broken.at) → first_broken (header_checks file) ≡ None
    → first_broken (segment_checks file) ≡ None → first_broken (symbol_checks file) ≡ Some broken
    → IsUnlessMemory result (reading file)
symbol_refused result broken file h header segments is =
    refused result broken file h (last_checks file header segments ∙ is)

made : (program : Executable) (entry : ℕ) (compressed : Bool) (segments : List LoadedSegment) (symbols : List Symbol)
    (strings : List ℕ)
    → program.entry ≡ entry → program.compressed ≡ compressed → program.segments ≡ segments
    → program.symbols ≡ symbols → program.strings ≡ strings
    → program
    ≡ record { entry = entry; compressed = compressed; segments = segments; symbols = symbols; strings = strings }
made program entry compressed segments symbols strings a b c d e = rw (sym a, sym b, sym c, sym d, sym e) refl

program_is : (program : Executable) (file : List ℕ)
    → program.entry ≡ entry_of file → program.compressed ≡ is_compressed file
    → program.segments ≡ segments_of file → program.symbols ≡ symbols_of (table_bytes file (table_of file))
    → program.strings ≡ string_bytes_of file (table_of file) → program ≡ program_of file
unfolding program_of
program_is program file entry compressed segments symbols strings =
    made program (entry_of file) (is_compressed file) (segments_of file)
    (symbols_of (table_bytes file (table_of file))) (string_bytes_of file (table_of file))
    entry compressed segments symbols strings

pub accepted : (program : Executable) (file : List ℕ) → first_broken (header_checks file) ≡ None
    → first_broken (segment_checks file) ≡ None → first_broken (symbol_checks file) ≡ None
    → program.entry ≡ entry_of file → program.compressed ≡ is_compressed file
    → program.segments ≡ segments_of file → program.symbols ≡ symbols_of (table_bytes file (table_of file))
    → program.strings ≡ string_bytes_of file (table_of file) → IsUnlessMemory (Ok program) (reading file)
accepted program file header segment symbol entry compressed segments symbols strings =
    let none = last_checks file header segment ∙ symbol in
    let same = program_is program file entry compressed segments symbols strings in
    rw (none, same) refl
