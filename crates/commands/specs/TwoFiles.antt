-- How files change where a command writes two: both are written, or none, or the writing of one fails.
use Rattle.std.specs.Prelude.{◌≡◌, ℕ, List}
use Rattle.commands.specs.Contents.{Contents, IsWritten, IsCutOff}
use Rattle.commands.specs.Written.{IsWriteFault}
use Rattle.commands.specs.declared.fault.Fault.{Fault}

-- one file was written with these bytes, and then the other with those; no third was written
pub record AreWritten (one other bytes more : List ℕ) (before after : Contents) : Type 0 where
  pub between : Contents
  pub first : IsWritten one bytes before between
  pub second : IsWritten other more between after

-- the writing of the first failed, or the first was written and the writing of the second failed
pub data AreCutOff (one other bytes more : List ℕ) (before after : Contents) : Fault → Type 0 where
  in_first : {fault : Fault} → IsCutOff one bytes before after → IsWriteFault one fault
      → AreCutOff one other bytes more before after fault
  in_second : {between : Contents} {fault : Fault} → IsWritten one bytes before between
      → IsCutOff other more between after → IsWriteFault other fault
      → AreCutOff one other bytes more before after fault

-- two files were written with such bytes
pub record WritesTwo (one other : List ℕ) (Such : List ℕ → List ℕ → Type 0) (before after : Contents) : Type 0 where
  pub bytes : List ℕ
  pub more : List ℕ
  pub such : Such bytes more
  pub written : AreWritten one other bytes more before after

-- why they were not: it was refused before any file was opened, or the writing of such bytes failed
pub data FailsToWriteTwo (one other : List ℕ) (Such : List ℕ → List ℕ → Type 0) (Refuses : Fault
    → Type 0) (before after : Contents) : Fault → Type 0 where
  refused : {fault : Fault} → Refuses fault → after ≡ before
      → FailsToWriteTwo one other Such Refuses before after fault
  cut_off : {bytes more : List ℕ} {fault : Fault} → Such bytes more
      → AreCutOff one other bytes more before after fault
      → FailsToWriteTwo one other Such Refuses before after fault
