-- What files hold, by their paths, and how many calls of them failed; and how that changes where a file is written, or
-- a call fails.
use Rattle.std.specs.Prelude.{◌≡◌, ◌≢◌, ◌⊎◌, ℕ, List, take, Option, Some}
use Rattle.std.proofs.Common.{zero, suc}
use Rattle.commands.specs.Below.{one_more}

-- the bytes of the file at a path, where there is one
abbrev pub Contents : Type 0
Contents = List ℕ → Option (List ℕ)

-- what files hold, and how many calls failed: those that were to open or to create one, and those of the sources and
-- sinks that were handed back
pub record Store : Type 0 where
  pub contents : Contents
  pub failures : ℕ

-- no file changed, and one more call failed
abbrev pub failed : Store → Store
failed before = record { contents = before.contents; failures = one_more before.failures }

-- no file changed, and so many more calls failed
abbrev pub failed_times : ℕ → Store → Store
failed_times zero before = before
failed_times (suc times) before = failed (failed_times times before)

-- these bytes are those of a file, to their end or until there are so many of them
pub record BeginsFile (files : Contents) (path : List ℕ) (limit : ℕ) (bytes : List ℕ) : Type 0 where
  pub whole : List ℕ
  pub held : files path ≡ Some whole
  pub begun : bytes ≡ take limit whole

-- all files but this one hold what they held
abbrev pub IsKeptBut : List ℕ → Contents → Contents → Type 0
IsKeptBut path before after = (other : List ℕ) → other ≢ path → after other ≡ before other

-- a file was written with these bytes, and no other was
pub record IsWritten (path bytes : List ℕ) (before after : Contents) : Type 0 where
  pub held : after path ≡ Some bytes
  pub others : IsKeptBut path before after

-- a file was to be written with these bytes: it holds what it held, or a beginning of them, and no other was written
pub record IsCutOff (path bytes : List ℕ) (before after : Contents) : Type 0 where
  pub held : (after path ≡ before path) ⊎ ((count : ℕ) × (after path ≡ Some (take count bytes)))
  pub others : IsKeptBut path before after
