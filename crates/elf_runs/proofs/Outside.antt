-- At the address that a function returns to no code stands.
use Rattle.std.proofs.Common.{◌≡◌, ◌≤◌, ◌+◌, ◌*◌, ◌++◌, [], ◌∷◌, ℕ, List, arith, Bool, drop, false, length}
use Rattle.std.proofs.Common.{length-drop, None, refl, subst, sym, true, ◌%◌}
use Rattle.std.specs.Prelude.{◌&&◌}
use Rattle.std.specs.List.{list_all}
use Rattle.std.proofs.lemmas.Bool.{le-leb, le-ltb, leb-true}
use Rattle.rv_programs.specs.Code.{no_halfword, no_word}
use Rattle.elf_runs.specs.Below.{AreApart, Executable, HasNoCode, lies_in, LoadedSegment, no_code, Profile, ProgramCode}
use Rattle.elf_runs.specs.Below.{Size}
use Rattle.elf_memory.specs.declared.asked.Asked.{Asked}
use Rattle.elf_runs.specs.Needs.{ends_by, first_unmet, needs}
use Rattle.elf_runs.specs.Code.{code_in, code_of, halfword_code, halfwords_of, to_multiple, word_code}
use Rattle.elf_runs.specs.Code.{words_of}
use Rattle.elf_memory.specs.Arguments.{return_address, stack_begin}
use Rattle.elf_runs.specs.Loading.{addresses_of, alignment_by, code_among, code_for}
use Rattle.elf_runs.proofs.Answering.{segments_below}

-- the words of bytes have no more bytes
words_fit : (bytes : List ℕ) → 4 * length (words_of bytes) ≤ length bytes
words_fit [] = omega arith
words_fit (a ∷ []) = omega arith
words_fit (a ∷ b ∷ []) = omega arith
words_fit (a ∷ b ∷ c ∷ []) = omega arith
words_fit (a ∷ b ∷ c ∷ d ∷ bytes) = omega (arith, words_fit bytes)

halfwords_fit : (bytes : List ℕ) → 2 * length (halfwords_of bytes) ≤ length bytes
halfwords_fit [] = omega arith
halfwords_fit (a ∷ []) = omega arith
halfwords_fit (a ∷ b ∷ bytes) = omega (arith, halfwords_fit bytes)

-- code that ends at an address or before it is not there
behind : (a begin end : ℕ) → begin ≤ end → end ≤ a → lies_in a (record { begin = begin; end = end }) ≡ false
behind a begin end goes ends = rw (le-leb begin a (omega (arith, goes, ends)), le-ltb a end ends) refl

-- the first segment ends before the address, and so do the others
abbrev AllEndBy : ℕ → List LoadedSegment → Type 0
AllEndBy a segments = list_all (ends_by a) segments ≡ true

both_true : (x y : Bool) → (x && y) ≡ true → (x ≡ true) × (y ≡ true)
both_true true true both = (refl, refl)
both_true true false both = cc
both_true false y both = cc

module _ (stack a : ℕ) (segment : LoadedSegment) (below : stack ≤ a)
    (ends : segment.address + segment.size ≤ stack) (fits : length segment.bytes ≤ segment.size)
    (aligned : a % 4 ≡ 0) where
  words_behind : lies_in a (addresses_of (word_code segment)) ≡ false
  words_behind =
      let skipped = to_multiple 4 segment.address in
      let left = length-drop skipped segment.bytes in
      let fit = words_fit (drop skipped segment.bytes) in
      let items = words_of (drop skipped segment.bytes) in
      behind a (segment.address + skipped) (segment.address + skipped + 4 * length items) (omega arith)
      (omega (arith, left, fit, ends, fits, below, aligned))

  halfwords_behind : lies_in a (addresses_of (halfword_code segment)) ≡ false
  halfwords_behind =
      let skipped = to_multiple 2 segment.address in
      let left = length-drop skipped segment.bytes in
      let fit = halfwords_fit (drop skipped segment.bytes) in
      let items = halfwords_of (drop skipped segment.bytes) in
      behind a (segment.address + skipped) (segment.address + skipped + 2 * length items) (omega arith)
      (omega (arith, left, fit, ends, fits, below, aligned))

  code_behind : (compressed : Bool) → lies_in a (addresses_of (code_of compressed segment)) ≡ false
  code_behind true = halfwords_behind
  code_behind false = words_behind

none_among : (compressed : Bool) (alignment : Size) (profile : Profile) (stack a : ℕ)
    (before segments : List LoadedSegment) → stack ≤ a → a % 4 ≡ 0 → AreApart before segments
    → list_all (ends_by stack) segments ≡ true
    → code_among alignment profile (code_in compressed segments) a ≡ no_code alignment profile
none_among compressed alignment profile stack a before [] below aligned apart ends = refl
none_among compressed alignment profile stack a before (segment ∷ segments) below aligned apart ends =
    let both = both_true (ends_by stack segment) (list_all (ends_by stack) segments) ends in
    let first : lies_in a (addresses_of (code_of compressed segment)) ≡ false =
    code_behind stack a segment below (leb-true (segment.address + segment.size) stack both.0) apart.1.1 aligned
    compressed in
    let rest = none_among compressed alignment profile stack a (before ++ segment ∷ []) segments below aligned apart.2
    both.1 in
    chosen segment.access.executable refl first rest
  where
    chosen : (b : Bool) → b ≡ segment.access.executable
        → lies_in a (addresses_of (code_of compressed segment)) ≡ false
        → code_among alignment profile (code_in compressed segments) a ≡ no_code alignment profile
        → code_among alignment profile (code_in compressed (segment ∷ segments)) a ≡ no_code alignment profile
    chosen true is first rest = rw (sym is, first) rest
    chosen false is first rest = rw (sym is) rest

none_in : (compressed : Bool) (profile : Profile) → HasNoCode (no_code (alignment_by compressed) profile) return_address
none_in true profile = no_halfword refl
none_in false profile = no_word refl

pub none_outside : (program : Executable) (asked : Asked) (profile : Profile) → AreApart [] program.segments
    → first_unmet (needs program asked) ≡ None → HasNoCode (code_for program profile return_address) return_address
none_outside program asked profile apart met =
    let ends = segments_below program asked met in
    let none = none_among program.compressed (alignment_by program.compressed) profile (stack_begin asked.stack)
    return_address [] program.segments (omega arith) (omega arith) apart ends in
    subst (λ (code : ProgramCode). HasNoCode code return_address) (sym none) (none_in program.compressed profile)
