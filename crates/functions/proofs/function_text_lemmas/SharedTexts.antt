-- The numbers that the text says of the shared tail.
use Rattle.std.proofs.Common.{◌≡◌, ◌++◌, codes, length, refl}
use Rattle.std.specs.Fmt.{decimal, digits}
use Rattle.functions.specs.Below.{shared_tail, tail_entry}

-- how many words it has
pub shared_count : codes " and " ++ decimal (length shared_tail) ++ codes " shared" ≡ codes " and 21 shared"
unfolding digits
shared_count = refl

-- where a call without a room enters it
pub entered_behind : codes "+" ++ decimal (tail_entry 0) ≡ codes "+24"
unfolding digits
entered_behind = refl
