-- Segments lie apart where no check of the program headers is broken.
use Rattle.std.proofs.Common.{◌≡◌, ℕ, ◌+◌, ◌≤◌, ◌^◌, Bool, true, false, cond, List, [], ◌∷◌, ◌++◌, drop, nat_le}
use Rattle.std.proofs.Common.{Option, None, Some, arith, length, nat_lt, refl}
use Rattle.std.proofs.lemmas.Bool.Decides.{nat_tests}
use Rattle.std.proofs.lemmas.List.{append-nil, length-take}
use Rattle.std.specs.List.{list_all}
use Rattle.elf.specs.Checks.{Check, first_broken, is_inside, told_by}
use Rattle.elf.specs.Header.{header_checks}
use Rattle.elf.specs.Layout.{AreApart}
use Rattle.elf.specs.Reading.{fault_of, program_of}
use Rattle.elf.specs.Segments.{LoadedSegment, checks_from, is_load, lies_apart, load_checks, memory_of, most_memory}
use Rattle.elf.specs.Segments.{most_segments, other_checks, program_headers, segment_checks, segment_of}
use Rattle.elf.specs.Segments.{segments_in, segments_of}
use Rattle.elf.specs.Symbols.{symbol_checks}
use Rattle.elf.specs.declared.fault.Broken.{Broken}
use Rattle.elf.specs.declared.program_header.ProgramHeader.{ProgramHeader}

at_most : (a b : ℕ) → nat_le a b ≡ true → a ≤ b
at_most a b h = grind (arith, nat_tests)

-- a check that holds, and those behind it
split : (holds : Bool) (broken : Broken) (rest : Option Broken) → cond holds rest (Some broken) ≡ None
    → (holds ≡ true) × (rest ≡ None)
split true broken rest h = (refl, h)
split false broken rest h = cc

-- lists of checks that are joined
parts : (front back : List Check) → first_broken (front ++ back) ≡ None
    → (first_broken front ≡ None) × (first_broken back ≡ None)
parts [] back h = (refl, h)
parts (one ∷ others) back h =
    let now = split one.holds (told_by one) (first_broken (others ++ back)) h in
    let later = parts others back now.1 in
    (rw now.0 later.0, later.1)

-- the third, the fourth and the fifth of six
middle : (z a b c d e : Bool) (y f g h i j : Broken)
    → cond z (cond a (cond b (cond c (cond d (cond e None (Some j)) (Some i)) (Some h)) (Some g)) (Some f)) (Some y)
    ≡ None
    → (b ≡ true) × (c ≡ true) × (d ≡ true)
middle z a b c d e y f g h i j all =
    let o = split z y (cond a (cond b (cond c (cond d (cond e None (Some j)) (Some i)) (Some h)) (Some g)) (Some f)) all
    in
    let p = split a f (cond b (cond c (cond d (cond e None (Some j)) (Some i)) (Some h)) (Some g)) o.1 in
    let q = split b g (cond c (cond d (cond e None (Some j)) (Some i)) (Some h)) p.1 in
    let r = split c h (cond d (cond e None (Some j)) (Some i)) q.1 in
    let s = split d i (cond e None (Some j)) r.1 in
    (q.0, r.0, s.0)

apart_at : (file : List ℕ) (before : List LoadedSegment) (header : ProgramHeader) (headers : List ProgramHeader)
    (kind : Bool)
    → is_load header ≡ kind → first_broken (checks_from file before (header ∷ headers)) ≡ None
    → ((more : List LoadedSegment) → first_broken (checks_from file more headers) ≡ None
    → AreApart more (segments_in file headers))
    → AreApart before (segments_in file (header ∷ headers))
apart_at file before header headers true is h later =
    let both =
    parts (load_checks file before header)
    (checks_from file (before ++ segment_of file header ∷ []) headers) (rw is at h) in
    let facts =
    middle (nat_lt (length before) most_segments) (is_inside header.offset header.file_size file)
    (list_all (lies_apart (segment_of file header)) before)
    (nat_le (header.address + header.memory_size) (2 ^ 32)) (nat_le header.file_size header.memory_size)
    (nat_le (memory_of before + header.memory_size) most_memory) _ _ _ _ _ _ both.0 in
    let high = at_most (header.address + header.memory_size) (2 ^ 32) facts.1 in
    let fits = at_most header.file_size header.memory_size facts.2 in
    let short = length-take header.file_size (drop header.offset file) in
    rw is (facts.0, (high, omega (arith, short, fits)), later (before ++ segment_of file header ∷ []) both.1)
apart_at file before header headers false is h later =
    let both = parts (other_checks header) (checks_from file (before ++ []) headers) (rw is at h) in
    rw is (later before (rw append-nil at both.1))

apart : (file : List ℕ) (before : List LoadedSegment) (headers : List ProgramHeader)
    → first_broken (checks_from file before headers) ≡ None → AreApart before (segments_in file headers)
apart file before [] h = tt
apart file before (header ∷ headers) h =
    apart_at file before header headers (is_load header) refl h (λ more. apart file more headers)

pub checked_apart : (file : List ℕ) → first_broken (segment_checks file) ≡ None → AreApart [] (segments_of file)
unfolding segment_checks segments_of
checked_apart file h = apart file [] (program_headers file) h

pub segments_apart : (file : List ℕ) → fault_of file ≡ None → AreApart [] (program_of file).segments
unfolding fault_of program_of
segments_apart file h =
    let front = parts (header_checks file ++ segment_checks file) (symbol_checks file) h in
    let middle_ones = parts (header_checks file) (segment_checks file) front.0 in
    checked_apart file middle_ones.1
