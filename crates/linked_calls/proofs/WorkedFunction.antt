-- The function that adds one to its argument, as it is worked out by hand: 30 words, and 26 steps around the 4 of its
-- body. At a small pace it has 10 words, and a step more: 21 words are those of the tail that functions share.
use Rattle.std.proofs.Common.{◌≡◌, ℕ, false, [], ◌∷◌, length, Some, refl}
use Rattle.compilation.specs.Needs.{Needs}
use Rattle.linked_calls.proofs.Below.{around_steps, Fields, function_words, P1, room_of, Secret, SingleWord, Uint32}
use Rattle.linked_calls.specs.FunctionCode.{shared_tail}
use Rattle.linked_calls.specs.declared.pace.Pace.TheVariants.{Fast, Small}

abbrev add_one : Fields
add_one = record {
  profile = P1;
  slots = record { param = record { kind = Uint32; label = Secret; form = SingleWord; length = 1 }; offset = 0 } ∷ [];
  returned = Some (record { kind = Uint32; label = Secret; offset = 4 });
  frame_bytes = 8;
  max_steps = 96;
  words = 0x12283 ∷ 0x100313 ∷ 0x6282b3 ∷ 0x512223 ∷ 0x73 ∷ [];
}

-- no word of its frame has to be 0, and its argument stands in its slot
abbrev needs : Needs
needs = record { blank = Some []; spared = false ∷ [] }

room : room_of add_one ≡ 16
room = refl

words : length (function_words add_one needs Fast 0) ≡ 30
unfolding function_words
words = refl

steps : (pointers : ℕ → ℕ) → around_steps add_one needs Fast pointers ≡ 26
steps pointers = refl

small_words : length (function_words add_one needs Small 0) ≡ 10
unfolding function_words
small_words = refl

tail_words : length shared_tail ≡ 21
tail_words = refl

small_steps : (pointers : ℕ → ℕ) → around_steps add_one needs Small pointers ≡ 27
small_steps pointers = refl
