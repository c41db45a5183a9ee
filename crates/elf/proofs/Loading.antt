-- The checks of the program headers, and the segments, one header at a time.
use Rattle.std.proofs.Common.{◌≡◌, ◌+◌, ◌-◌, ◌∙◌, Bool, true, false, ℕ, List, [], ◌∷◌, ◌++◌, None, refl}
use Rattle.std.proofs.Common.{Result, Ok, Err, IfErr, ap, append_assoc, arith}
use Rattle.std.proofs.lemmas.List.{append-nil}
use Rattle.std.specs.Result.{IsErrAnd}
use Rattle.elf.specs.Checks.{IsTold, first_broken}
use Rattle.elf.specs.Header.{program_header_count, program_headers_place}
use Rattle.elf.specs.Segments.{LoadedSegment, checks_at, checks_from, is_load, program_headers, program_headers_from}
use Rattle.elf.specs.Segments.{segment_checks, segments_in, segments_of}
use Rattle.elf.specs.declared.fault.Broken.{Broken}
use Rattle.elf.specs.declared.fault.ElfFault.{ElfFault}
use Rattle.elf.specs.declared.fault.ElfFault.TheVariants.{File, Memory}
use Rattle.elf.specs.declared.program_header.ProgramHeader.{ProgramHeader}
use Rattle.elf.proofs.Broken.{broken_before, held_before}

pub header_held : (file : List ℕ) (before : List LoadedSegment) (header : ProgramHeader)
    (headers : List ProgramHeader)
    → first_broken (checks_at file before header) ≡ None
    → first_broken (checks_from file before (header ∷ headers))
    ≡ first_broken (checks_from file (before ++ segments_in file (header ∷ [])) headers)
header_held file before header headers h =
    held_before (checks_at file before header)
    (checks_from file (before ++ segments_in file (header ∷ [])) headers) h

-- what is handed on of the fault that a header tells
pub header_told : {A : Type 0} (result : Result A ElfFault) (fault : ElfFault) (file : List ℕ)
    (before : List LoadedSegment) (header : ProgramHeader) (headers : List ProgramHeader)
    → IsErrAnd result (λ e. e ≡ fault) → IsTold fault (checks_at file before header)
    → first_broken (segment_checks file) ≡ first_broken (checks_from file before (header ∷ headers))
    → IfErr result (λ e. IsTold e (segment_checks file))
header_told (Ok x) fault file before header headers h is from = absurd h
header_told (Err e) Memory file before header headers h is from = rw h tt
header_told (Err e) (File rule at) file before header headers h is from =
    let broken : Broken = record { rule = rule; at = at } in
    rw h
    (from
    ∙ broken_before (checks_at file before header)
    (checks_from file (before ++ segments_in file (header ∷ [])) headers) broken is)

one_by : (file : List ℕ) (header : ProgramHeader) (headers : List ProgramHeader) (items : List LoadedSegment)
    (kind : Bool)
    → is_load header ≡ kind
    → items ++ segments_in file (header ∷ headers)
    ≡ (items ++ segments_in file (header ∷ [])) ++ segments_in file headers
one_by file header headers items true is = rw (is, append_assoc) refl
one_by file header headers items false is = rw (is, append-nil) refl

pub one_more : (file : List ℕ) (header : ProgramHeader) (headers : List ProgramHeader) (items : List LoadedSegment)
    → items ++ segments_in file (header ∷ headers)
    ≡ (items ++ segments_in file (header ∷ [])) ++ segments_in file headers
one_more file header headers items = one_by file header headers items (is_load header) refl

-- where a loop over them begins
pub at_start : (file : List ℕ) (count start : ℕ) → count ≡ program_header_count file → start ≡ program_headers_place file
    → program_headers file ≡ program_headers_from (count - 0) (start + 0) file
at_start file count start many place =
    let n : program_header_count file ≡ count - 0 = omega arith in
    let p : program_headers_place file ≡ start + 0 = omega arith in
    ap (λ m. program_headers_from m (program_headers_place file) file) n
    ∙ ap (λ m. program_headers_from (count - 0) m file) p

pub first_checks : (file : List ℕ) (count start : ℕ) (items : List LoadedSegment)
    → count ≡ program_header_count file → start ≡ program_headers_place file → items ≡ []
    → first_broken (segment_checks file)
    ≡ first_broken (checks_from file items (program_headers_from (count - 0) (start + 0) file))
unfolding segment_checks
first_checks file count start items many place none =
    rw none (ap (λ headers. first_broken (checks_from file [] headers)) (at_start file count start many place))

pub first_segments : (file : List ℕ) (count start : ℕ) (items : List LoadedSegment)
    → count ≡ program_header_count file → start ≡ program_headers_place file → items ≡ []
    → segments_of file ≡ items ++ segments_in file (program_headers_from (count - 0) (start + 0) file)
unfolding segments_of
first_segments file count start items many place none =
    rw none (ap (segments_in file) (at_start file count start many place))
