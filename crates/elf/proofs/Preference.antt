-- Of the symbols that fit the first that is not local, else the first: as a loop finds it, which keeps the first that
-- fits.
use Rattle.std.proofs.Common.{◌≡◌, ◌&&◌, Bool, true, false, List, [], ◌∷◌, Option, None, Some, find, refl}
use Rattle.std.specs.Option.{option_or}
use Rattle.elf.specs.Lookup.{is_shared}
use Rattle.elf.specs.declared.symbol.Symbol.{Symbol}

-- what it is, where `found` is the first that fits before
abbrev pub preferred_after : (Symbol → Bool) → Option Symbol → List Symbol → Option Symbol
preferred_after test found symbols =
    option_or (find (λ symbol. test symbol && is_shared symbol) symbols) (option_or found (find test symbols))

pub shared : (test : Symbol → Bool) (found : Option Symbol) (x : Symbol) (xs : List Symbol)
    → test x ≡ true → is_shared x ≡ true → preferred_after test found (x ∷ xs) ≡ Some x
shared test found x xs fits is = rw (fits, is) refl

first_stays : (found rest : Option Symbol) (x : Symbol)
    → option_or (option_or found (Some x)) rest ≡ option_or found (Some x)
first_stays None rest x = refl
first_stays (Some first) rest x = refl

pub local : (test : Symbol → Bool) (found : Option Symbol) (x : Symbol) (xs : List Symbol)
    → test x ≡ true → is_shared x ≡ false
    → preferred_after test found (x ∷ xs) ≡ preferred_after test (option_or found (Some x)) xs
local test found x xs fits is =
    rw (fits, is) (rw (first_stays found (find test xs) x) refl)

pub other : (test : Symbol → Bool) (found : Option Symbol) (x : Symbol) (xs : List Symbol)
    → test x ≡ false → preferred_after test found (x ∷ xs) ≡ preferred_after test found xs
other test found x xs misses = rw misses refl

pub none_left : (test : Symbol → Bool) (found : Option Symbol) → preferred_after test found [] ≡ found
none_left test None = refl
none_left test (Some x) = refl
