-- What each pace means in numbers.
use Rattle.std.specs.Prelude.{ℕ}
use Rattle.linked_calls.specs.Below.{Boolean, Kind, Uint16, Uint32, Uint8}
use Rattle.linked_calls.specs.declared.pace.Pace.{Pace}
use Rattle.linked_calls.specs.declared.pace.Pace.TheVariants.{Fast, Small}
use Rattle.linked_calls.specs.declared.round.Round.{Round}
use Rattle.linked_calls.specs.declared.round.Round.TheVariants.{Four, One, Two}

-- so many words of a frame, and no more, are zeroed one by one; where they are more, all of it is. At a small pace they
-- are as many as make no more code than a loop
abbrev pub most_blanks : Pace → ℕ
most_blanks Fast = 32
most_blanks Small = 7

-- fewer elements than these are copied by straight code, which has two instructions or three for each; a loop over one
-- element a round has six or seven
abbrev pub few_elements : Pace → Kind → ℕ
few_elements Fast Boolean = 8
few_elements Fast Uint8 = 4
few_elements Fast Uint16 = 4
few_elements Fast Uint32 = 8
few_elements Small Boolean = 4
few_elements Small Uint8 = 4
few_elements Small Uint16 = 4
few_elements Small Uint32 = 4

-- so many elements, or words, go in one round
abbrev pub times : Round → ℕ
times One = 1
times Two = 2
times Four = 4

-- how many elements a round of an array's own loop copies: at a fast pace two words or bools
abbrev pub own_round : Pace → Kind → Round
own_round Fast Boolean = Two
own_round Fast Uint8 = One
own_round Fast Uint16 = One
own_round Fast Uint32 = Two
own_round Small Boolean = One
own_round Small Uint8 = One
own_round Small Uint16 = One
own_round Small Uint32 = One

abbrev pub per_round : Pace → Kind → ℕ
per_round pace kind = times (own_round pace kind)

-- fewer elements are not worth a call of the copier: of words those that straight code copies as well, and of smaller
-- elements those that are no whole word
abbrev pub least_for_call : Kind → ℕ
least_for_call Boolean = 4
least_for_call Uint8 = 4
least_for_call Uint16 = 2
least_for_call Uint32 = 5
