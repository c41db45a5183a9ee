-- Bytes that were read up to a limit.
use Rattle.std.proofs.Common.{◌≡◌, ℕ, ◌<◌, List, length, take, drop, arith, ap, ◌∙◌}
use Rattle.std.proofs.lemmas.List.{length-take, take_all}
use Rattle.input_files.specs.Below.{LosesPart}

-- where fewer came than were asked for, they are all
pub all-of-fewer : (read all : List ℕ) (asked : ℕ) → read ≡ take asked all → length read < asked → read ≡ all
all-of-fewer read all asked is fewer =
    let counted : length read ≡ length (take asked all) = ap length is in
    is ∙ take_all asked all (omega (arith, length-take asked all))

-- there are no fewer than came
pub no-fewer : (read all : List ℕ) (asked least : ℕ) → read ≡ take asked all → least < length read
    → least < length all
no-fewer read all asked least is more =
    let counted : length read ≡ length (take asked all) = ap length is in
    omega (arith, length-take asked all)

-- as many as were asked for were handed out
pub lost : (before after : List ℕ) (asked : ℕ) → after ≡ drop asked before → LosesPart before after asked
lost before after asked is = record { count = asked; within = omega arith; left = is }
