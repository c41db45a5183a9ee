-- Which words are live, seen backwards from the end of the code: what they hold may be read later. A table says which
-- variable each word lives in; no variable may hold two live words at once. Arrays are treated as words are.
use Rattle.std.specs.Prelude.{ℕ, ◌+◌, ◌*◌, ◌==◌, ◌&&◌, Bool, true, false, not, List, [], ◌∷◌, Option, None, Some}
use Rattle.std.specs.Prelude.{if◌then◌else◌, length, min, slice_get, slice_set, take, unwrap_or}
use Rattle.straight_words.specs.declared.live_words.live.Live.{Live}

-- for each word the variable that it lives in; those behind the end keep their own
abbrev pub Table : Type 0
Table = List ℕ

abbrev pub share : Table → ℕ → ℕ
share table x = unwrap_or (slice_get table x) x

abbrev pub Holders : Type 0
Holders = List (Option ℕ)

pub record Held : Type 0 where
  -- for each variable the live word that it holds, where it holds one
  pub holders : Holders
  -- no variable has to hold two words at once
  pub fits : Bool
  -- which of so many words were set while which others of them were live: of x and y at x times their number and y
  pub conflicts : List Bool
  pub width : ℕ

-- what the code carries along
abbrev pub held_by : Live → Held
held_by live = record {
  holders = live.holders.items;
  fits = live.fits;
  conflicts = live.conflicts.items;
  width = live.width;
}

-- the live word that a variable holds
abbrev pub holder : Holders → ℕ → Option ℕ
holder holders v = unwrap_or (slice_get holders v) None

abbrev pub is_by : Option ℕ → ℕ → Bool
is_by None x = false
is_by (Some y) x = y == x

-- whether a word is live
abbrev pub is_live : Table → Held → ℕ → Bool
is_live table held x = is_by (holder held.holders (share table x)) x

-- a variable holds no other word
abbrev pub is_free_for : Option (Option ℕ) → ℕ → Bool
is_free_for None x = false
is_free_for (Some None) x = true
is_free_for (Some (Some y)) x = y == x

abbrev pub is_free : Holders → ℕ → ℕ → Bool
is_free holders v x = is_free_for (slice_get holders v) x

-- it has to fit in this respect too
abbrev pub fitting : Held → Bool → Held
fitting held fine = record {
  holders = held.holders;
  fits = held.fits && fine;
  conflicts = held.conflicts;
  width = held.width;
}

-- with other holders
abbrev pub anew : Held → Holders → Held
anew held holders = record {
  holders = holders;
  fits = held.fits;
  conflicts = held.conflicts;
  width = held.width;
}

-- the variable v holds the word x, which is live
abbrev pub holding : Held → ℕ → ℕ → Held
holding held v x =
    anew (fitting held (is_free held.holders v x)) (slice_set held.holders v (Some x))

-- a word is live
abbrev pub living : Table → Held → ℕ → Held
living table held x = holding held (share table x) x

-- which words were set already
abbrev pub Done : Type 0
Done = List Bool

-- so is one that was not set already
abbrev pub is_done : Done → ℕ → Bool
is_done done x = unwrap_or (slice_get done x) false

abbrev pub living_where : Table → Done → Held → ℕ → Held
living_where table done held x = if is_done done x then held else living table held x

-- Conflicts.

-- of a word with each that is live
abbrev pub noted_all : List Bool → ℕ → ℕ → Holders → List Bool
noted_all conflicts width x [] = conflicts
noted_all conflicts width x (None ∷ holders) = noted_all conflicts width x holders
noted_all conflicts width x (Some y ∷ holders) =
    noted_all (slice_set conflicts (x * width + y) true) width x holders

abbrev pub noted : Held → ℕ → Held
noted held x = record {
  holders = held.holders;
  fits = held.fits;
  conflicts = noted_all held.conflicts held.width x (take (min (length held.holders) held.width) held.holders);
  width = held.width;
}

-- a word that has to keep its own variable is in conflict with itself
abbrev pub noted_own : Held → ℕ → Held
noted_own held x = record {
  holders = held.holders;
  fits = held.fits;
  conflicts = slice_set held.conflicts (x * held.width + x) true;
  width = held.width;
}

-- a word is set: before, it is not live
abbrev pub freed : Table → Held → ℕ → Held
freed table held x =
    anew (fitting held (is_free held.holders (share table x) x)) (slice_set held.holders (share table x) None)

abbrev pub setting : Table → Held → ℕ → Held
setting table held x = noted (freed table held x) x

abbrev pub noted_own_where : Bool → Held → ℕ → Held
noted_own_where own held x = if own then noted_own held x else held

-- a counter is live through its loop, whose body so sets the counter's variable nowhere; it keeps its own variable but
-- where the loop goes from a number to a number: its work does not hang on the iterations that are counted then
abbrev pub counting : Table → Held → ℕ → Bool → Held
counting table held x numbers = noted_own_where (not numbers) (living table held x) x

-- Holders beside others.

-- where one of two runs: what is live before either
abbrev pub joined : Held → ℕ → Holders → Held
joined held v [] = held
joined held v (None ∷ holders) = joined held (v + 1) holders
joined held v (Some x ∷ holders) = joined (holding held v x) (v + 1) holders

-- the variables from v on that hold words hold the same ones here
abbrev pub covers : Holders → ℕ → Holders → Bool
covers these v [] = true
covers these v (None ∷ holders) = covers these (v + 1) holders
covers these v (Some x ∷ holders) = is_by (holder these v) x && covers these (v + 1) holders

-- each variable from v on that holds a word holds its own
abbrev pub hold_own : ℕ → Holders → Bool
hold_own v [] = true
hold_own v (None ∷ holders) = hold_own (v + 1) holders
hold_own v (Some x ∷ holders) = (x == v) && hold_own (v + 1) holders
