-- Headers and symbols one after another, as loops go over them.
use Rattle.std.proofs.Common.{◌≡◌, ℕ, ◌+◌, ◌-◌, ◌*◌, ◌<◌, ◌≤◌, suc, ◌∙◌, Bool, true, false, List, [], ◌∷◌}
use Rattle.std.proofs.Common.{None, Some, find, refl, ap, arith}
use Rattle.elf.specs.Lookup.{covers}
use Rattle.elf.specs.Segments.{program_header_at, program_headers_from}
use Rattle.elf.specs.Symbols.{is_table, section_at, sections_from, symbol_at, symbols_from}
use Rattle.elf.specs.declared.program_header.ProgramHeader.{ProgramHeader}
use Rattle.elf.specs.declared.lookup.Wanted.{Wanted}
use Rattle.elf.specs.declared.symbol.Symbol.{Symbol}

pub find_past : {A : Type 0} (test : A → Bool) (x : A) (xs : List A) → test x ≡ false
    → find test (x ∷ xs) ≡ find test xs
find_past test x xs misses = rw misses refl

pub find_here : {A : Type 0} (test : A → Bool) (x : A) (xs : List A) → test x ≡ true → find test (x ∷ xs) ≡ Some x
find_here test x xs passes = rw passes refl

pub one_header : (n k start : ℕ) (file : List ℕ) (header : ProgramHeader)
    → k < n → header ≡ program_header_at (start + 32 * k) file
    → program_headers_from (n - k) (start + 32 * k) file
    ≡ header ∷ program_headers_from (n - (k + 1)) (start + 32 * (k + 1)) file
one_header n k start file header lt is =
    let left : n - k ≡ suc (n - (k + 1)) = omega arith in
    let next : start + 32 * k + 32 ≡ start + 32 * (k + 1) = omega arith in
    rw (left, next, is) refl

pub no_header : (n k start : ℕ) (file : List ℕ) → n ≤ k → program_headers_from (n - k) (start + 32 * k) file ≡ []
no_header n k start file le =
    let none : n - k ≡ 0 = omega arith in
    rw none refl

pub one_section : (n k start : ℕ) (file : List ℕ) → k < n
    → sections_from (n - k) (start + 40 * k) file
    ≡ section_at (start + 40 * k) file ∷ sections_from (n - (k + 1)) (start + 40 * (k + 1)) file
one_section n k start file lt =
    let left : n - k ≡ suc (n - (k + 1)) = omega arith in
    let next : start + 40 * k + 40 ≡ start + 40 * (k + 1) = omega arith in
    rw (left, next) refl

pub section_past : (n k start : ℕ) (file : List ℕ) → k < n → is_table (section_at (start + 40 * k) file) ≡ false
    → find is_table (sections_from (n - k) (start + 40 * k) file)
    ≡ find is_table (sections_from (n - (k + 1)) (start + 40 * (k + 1)) file)
section_past n k start file lt misses =
    ap (find is_table) (one_section n k start file lt)
    ∙ find_past is_table (section_at (start + 40 * k) file)
    (sections_from (n - (k + 1)) (start + 40 * (k + 1)) file) misses

pub section_here : (n k start : ℕ) (file : List ℕ) → k < n → is_table (section_at (start + 40 * k) file) ≡ true
    → find is_table (sections_from (n - k) (start + 40 * k) file) ≡ Some (section_at (start + 40 * k) file)
section_here n k start file lt passes =
    ap (find is_table) (one_section n k start file lt)
    ∙ find_here is_table (section_at (start + 40 * k) file)
    (sections_from (n - (k + 1)) (start + 40 * (k + 1)) file) passes

pub sections_done : (n k start : ℕ) (file : List ℕ) → n ≤ k
    → find is_table (sections_from (n - k) (start + 40 * k) file) ≡ None
sections_done n k start file le =
    let none : n - k ≡ 0 = omega arith in
    rw none refl

pub one_symbol : (n k : ℕ) (table : List ℕ) → k < n
    → symbols_from (n - k) (16 * k) table
    ≡ symbol_at (16 * k) table ∷ symbols_from (n - (k + 1)) (16 * (k + 1)) table
one_symbol n k table lt =
    let left : n - k ≡ suc (n - (k + 1)) = omega arith in
    let next : 16 * k + 16 ≡ 16 * (k + 1) = omega arith in
    rw (left, next) refl

pub symbol_step : (n k : ℕ) (table : List ℕ) (symbol : Symbol)
    → k < n → symbol ≡ symbol_at (16 * k) table
    → symbols_from (n - k) (16 * k) table ≡ symbol ∷ symbols_from (n - (k + 1)) (16 * (k + 1)) table
symbol_step n k table symbol lt is = rw is (one_symbol n k table lt)

pub first_symbol : (n : ℕ) (table : List ℕ) → symbols_from n 0 table ≡ symbols_from (n - 0) (16 * 0) table
first_symbol n table =
    let same : n ≡ n - 0 = omega arith in
    ap (λ m. symbols_from m 0 table) same

pub no_symbol : (n k : ℕ) (table : List ℕ) → n ≤ k → symbols_from (n - k) (16 * k) table ≡ []
no_symbol n k table le =
    let none : n - k ≡ 0 = omega arith in
    rw none refl

pub cover_past : (wanted : Wanted) (address n k : ℕ) (table : List ℕ) → k < n
    → covers wanted address (symbol_at (16 * k) table) ≡ false
    → find (covers wanted address) (symbols_from (n - k) (16 * k) table)
    ≡ find (covers wanted address) (symbols_from (n - (k + 1)) (16 * (k + 1)) table)
cover_past wanted address n k table lt misses =
    ap (find (covers wanted address)) (one_symbol n k table lt)
    ∙ find_past (covers wanted address) (symbol_at (16 * k) table) (symbols_from (n - (k + 1)) (16 * (k + 1)) table) misses

pub cover_here : (wanted : Wanted) (address n k : ℕ) (table : List ℕ) → k < n
    → covers wanted address (symbol_at (16 * k) table) ≡ true
    → find (covers wanted address) (symbols_from (n - k) (16 * k) table) ≡ Some (symbol_at (16 * k) table)
cover_here wanted address n k table lt passes =
    ap (find (covers wanted address)) (one_symbol n k table lt)
    ∙ find_here (covers wanted address) (symbol_at (16 * k) table) (symbols_from (n - (k + 1)) (16 * (k + 1)) table) passes

pub covers_done : (wanted : Wanted) (address n k : ℕ) (table : List ℕ) → n ≤ k
    → find (covers wanted address) (symbols_from (n - k) (16 * k) table) ≡ None
covers_done wanted address n k table le = ap (find (covers wanted address)) (no_symbol n k table le)
