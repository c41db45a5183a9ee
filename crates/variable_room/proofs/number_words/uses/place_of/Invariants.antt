use Rattle.std.proofs.Common.{◌≡◌, ◌+◌, drop}
use Rattle.variable_room.specs.number_words.private.Uses.{place_of}
use Rattle.variable_room.proofs.number_words.uses.place_of.Given as goal

-- none of those so far is it
abbrev pub invariant-loop-place : goal.invariant-loop-place
invariant-loop-place l = l.place + place_of (drop l.place l.uses) l.number ≡ place_of l.uses l.number
