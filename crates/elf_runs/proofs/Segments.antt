-- The code of segments, one after another.
use Rattle.std.proofs.Common.{◌≡◌, ◌<◌, ◌+◌, ◌++◌, ◌∙◌, [], ◌∷◌, ℕ, List, ap, arith, drop, false, get_or, inl, inr}
use Rattle.std.proofs.Common.{length, map, refl, sym, true}
use Rattle.std.specs.Prelude.{if◌then◌else◌}
use Rattle.std.proofs.lemmas.Bool.{cases_lt, le-leb, lt-leb, le-ltb}
use Rattle.std.proofs.lemmas.List.{drop_more}
use Rattle.elf_runs.specs.Below.{AddressRange, code_in, CodeSegment, lies_in, loaded_code, Profile, ProgramCode}
use Rattle.elf_runs.specs.Below.{Size}
use Rattle.elf_runs.specs.declared.loaded_code.Code.{Code}
use Rattle.elf_runs.specs.Code.{placed, PlacedCode}
use Rattle.elf_runs.specs.Loading.{addresses_of, code_among, code_by}

pub code_in-more : (other : ProgramCode) (segments : List CodeSegment) (segment : CodeSegment) (p : ℕ)
    → code_in other (segments ++ segment ∷ []) p
    ≡ code_in (if lies_in p segment.addresses then loaded_code segment.code else other) segments p
code_in-more other [] segment p = refl
code_in-more other (first ∷ segments) segment p =
    ap (λ (c : ProgramCode). if lies_in p first.addresses then loaded_code first.code else c)
    (code_in-more other segments segment p)

-- code, and that of others where an address is none of its own
abbrev code_or : Profile → PlacedCode → ProgramCode → ℕ → ProgramCode
code_or profile code other a = if lies_in a (addresses_of code) then code_by profile code else other

-- the code of those from a place on
abbrev from_on : Size → Profile → List Code → ℕ → ℕ → ProgramCode
from_on alignment profile codes k a = code_among alignment profile (map placed (drop k codes)) a

module _ (alignment : Size) (profile : Profile) (codes : List Code) (k : ℕ) (code : Code) (a : ℕ)
    (lt : k < length codes) (is : code ≡ get_or codes k code) where
  left : from_on alignment profile codes k a
      ≡ code_or profile (placed code) (from_on alignment profile codes (k + 1) a) a
  left =
      let rest = from_on alignment profile codes (k + 1) a in
      ap (λ (cs : List Code). code_among alignment profile (map placed cs) a) (drop_more codes k code lt)
      ∙ ap (λ (c : Code). code_or profile (placed c) rest a) (sym is)

  -- one segment more
  pub segment_more : (segments items : List CodeSegment) (segment : CodeSegment) (whole : ProgramCode)
      → segment.addresses ≡ addresses_of (placed code)
      → loaded_code segment.code ≡ code_by profile (placed code)
      → items ≡ segments ++ segment ∷ []
      → code_in (from_on alignment profile codes k a) segments a ≡ whole
      → code_in (from_on alignment profile codes (k + 1) a) items a ≡ whole
  segment_more segments items segment whole at of are before =
      let rest = from_on alignment profile codes (k + 1) a in
      let one : (if lies_in a segment.addresses then loaded_code segment.code else rest)
      ≡ code_or profile (placed code) rest a =
      ap (λ (r : AddressRange). if lies_in a r then loaded_code segment.code else rest) at
      ∙ ap (λ (c : ProgramCode). if lies_in a (addresses_of (placed code)) then c else rest) of in
      ap (λ (s : List CodeSegment). code_in rest s a) are
      ∙ code_in-more rest segments segment a
      ∙ ap (λ (c : ProgramCode). code_in c segments a) (one ∙ sym left)
      ∙ before

  -- where there is no code there is no segment
  pub nothing_more : (segments : List CodeSegment) (whole : ProgramCode) → lies_in a (addresses_of (placed code)) ≡ false
      → code_in (from_on alignment profile codes k a) segments a ≡ whole
      → code_in (from_on alignment profile codes (k + 1) a) segments a ≡ whole
  nothing_more segments whole none before =
      let rest = from_on alignment profile codes (k + 1) a in
      let same : from_on alignment profile codes k a ≡ rest =
      left ∙ ap (λ b. if b then code_by profile (placed code) else rest) none in
      ap (λ (c : ProgramCode). code_in c segments a) (sym same) ∙ before

  -- the first code that has an address is the whole's there
  pub found_there : (whole : ProgramCode) → lies_in a (addresses_of (placed code)) ≡ true
      → from_on alignment profile codes k a ≡ whole → code_by profile (placed code) ≡ whole
  found_there whole there before =
      let rest = from_on alignment profile codes (k + 1) a in
      ap (λ b. if b then code_by profile (placed code) else rest) (sym there) ∙ sym left ∙ before

  -- and code that has it not is passed by
  pub passed_by : (whole : ProgramCode) → lies_in a (addresses_of (placed code)) ≡ false
      → from_on alignment profile codes k a ≡ whole → from_on alignment profile codes (k + 1) a ≡ whole
  passed_by whole none before =
      let rest = from_on alignment profile codes (k + 1) a in
      ap (λ b. if b then code_by profile (placed code) else rest) (sym none) ∙ sym left ∙ before

-- no address lies in none
pub lies_in_none : (a : ℕ) (range : AddressRange) → range.end ≡ range.begin → lies_in a range ≡ false
lies_in_none a range none = elim (cases_lt a range.begin) [
  | inl low ↦ rw (lt-leb range.begin a low) refl
  | inr from ↦ rw (le-leb range.begin a from, le-ltb a range.end (omega (arith, none, from))) refl
]
