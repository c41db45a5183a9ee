-- The path of a run: the values that decide what the run shows and whether it meets a fault, in the order in which it
-- meets them.
use Rattle.std.specs.Prelude.{ℕ, ◌-◌, ◌<◌, ◌≤◌, ◌==◌, nat_lt, List, [], ◌∷◌, ◌++◌, Option, Some, None, if◌then◌else◌}
use Rattle.std.specs.Prelude.{slice_index}
use Rattle.inline.specs.Below.{Place, Profile}
use Rattle.word.specs.declared.profile.Profile.TheVariants.{P1, P2}

pub data Mark : Type 0 where
  -- a condition that a run branches on
  decided : (value : ℕ) → Mark
  -- the bounds of a loop, by its counter
  bounded : (counter low high : ℕ) → Mark
  -- an index into an array of so many elements
  indexed : (place : Place) (size index : ℕ) → Mark
  -- the operands of a division
  divided : (place : Place) (left right : ℕ) → Mark
  -- the operands of a multiplication
  multiplied : (left right : ℕ) → Mark

abbrev pub Path : Type 0
Path = List Mark

-- where a mark is a fault, and at which place: an index not below the size, a divisor 0
abbrev pub fault_at : Mark → Option Place
fault_at (decided value) = None
fault_at (bounded x low high) = None
fault_at (indexed place size index) = if nat_lt index size then None else Some place
fault_at (divided place left right) = if right == 0 then Some place else None
fault_at (multiplied left right) = None

-- one of two, the first where there is one
abbrev pub either : Option Place → Option Place → Option Place
either (Some place) later = Some place
either None later = later

-- the first fault on a path
abbrev pub first_fault : Path → Option Place
first_fault [] = None
first_fault (mark ∷ rest) = either (fault_at mark) (first_fault rest)

-- A mark is fine: it is no fault, and a loop makes no more iterations than are counted for its counter.
abbrev pub IsFine : List ℕ → Mark → Type 0
IsFine iterations (decided value) = Unit {0}
IsFine iterations (bounded x low high) = high - low ≤ slice_index iterations x
IsFine iterations (indexed place size index) = index < size
IsFine iterations (divided place left right) = 0 < right
IsFine iterations (multiplied left right) = Unit {0}

-- all marks on a path are
abbrev pub AreFine : List ℕ → Path → Type 0
AreFine iterations [] = Unit {0}
AreFine iterations (mark ∷ rest) = IsFine iterations mark × AreFine iterations rest

-- what a run shows of a mark: the operands of a multiplication in profile 2 alone
abbrev pub shown_of : Profile → Mark → Path
shown_of profile (decided value) = decided value ∷ []
shown_of profile (bounded x low high) = bounded x low high ∷ []
shown_of profile (indexed place size index) = indexed place size index ∷ []
shown_of profile (divided place left right) = divided place left right ∷ []
shown_of P1 (multiplied left right) = []
shown_of P2 (multiplied left right) = multiplied left right ∷ []

-- the part of a path that decides what a run shows
abbrev pub seen : Profile → Path → Path
seen profile [] = []
seen profile (mark ∷ rest) = shown_of profile mark ++ seen profile rest
