-- What the secrets are in the two runs of each try: zeros, or numbers of PCG XSH RR 64/32 (O'Neill, "PCG: A Family of
-- Simple Fast Space-Efficient Statistically Good Algorithms for Random Number Generation").
use Rattle.std.specs.Prelude.{ℕ, zero, suc, ◌+◌, ◌-◌, ◌/◌, ◌%◌, ◌^◌, ◌==◌, List, [], ◌∷◌, ◌++◌, bit_xor, length, map}
use Rattle.std.specs.Prelude.{replicate, slice_index, slice_set, take, if◌then◌else◌}
use Rattle.std.specs.Int.{bit_not, w8}
use Rattle.rand_core.specs.Steps.{stream_of, steps_u32}
use Rattle.rand_core.specs.Stream.{fill_bytes, next_u64, Stream}
use Rattle.rand_pcg.specs.Lcg.{increment_of, Lcg, started}
use Rattle.rand_pcg.specs.Pcg.{multiplier_64, pcg32}
use Rattle.elf_memory.specs.declared.asked.Asked.{Asked}
use Rattle.elf_witnesses.specs.Below.{Executable, object_named}
use Rattle.elf_memory.specs.declared.asked.Secret.{Secret}
use Rattle.elf_memory.specs.Objects.{size_of}

-- the numbers that a generator gives from now on
abbrev pub numbers_of : Lcg → Stream
numbers_of = stream_of (steps_u32 pcg32)

-- those that a search begins with: of the state and the stream of the demonstration of the generator's authors
abbrev pub first_numbers : Stream
first_numbers = numbers_of (started 64 multiplier_64 42 (increment_of 64 54))

-- a secret's bytes in the first run of a try, and the numbers that are left: zeros and numbers in turn
abbrev pub first_bytes : ℕ → ℕ → Stream → List ℕ × Stream
first_bytes attempt size numbers = if attempt % 2 == 1 then fill_bytes size numbers else (replicate size 0, numbers)

-- all bits flipped
abbrev pub flipped : List ℕ → List ℕ
flipped bytes = map (bit_not w8) bytes

-- one bit of the byte at this place flipped
abbrev pub with_bit_flipped : List ℕ → ℕ → ℕ → List ℕ
with_bit_flipped bytes place bit = slice_set bytes place (bit_xor (slice_index bytes place) (2 ^ bit))

-- the bytes before a place, and then others
abbrev pub behind_place : List ℕ → ℕ → List ℕ × Stream → List ℕ × Stream
behind_place bytes place (others, numbers) = (take place bytes ++ others, numbers)

-- by a number: in turn all bits are flipped, the bytes are other ones, one bit is flipped, and the bytes from a place
-- on are other ones
abbrev pub changed_by : ℕ → List ℕ → ℕ × Stream → List ℕ × Stream
changed_by turn bytes (number, numbers) =
    let place = number % length bytes in
    if turn == 0 then (flipped bytes, numbers)
    else if turn == 1 then fill_bytes (length bytes) numbers
    else if turn == 2 then (with_bit_flipped bytes place (number / 2 ^ 61), numbers)
    else behind_place bytes place (fill_bytes (length bytes - place) numbers)

-- a secret's bytes in the second run, by those in the first
abbrev pub other_bytes : ℕ → List ℕ → Stream → List ℕ × Stream
other_bytes attempt [] numbers = ([], numbers)
other_bytes attempt (byte ∷ bytes) numbers = changed_by (attempt / 2 % 4) (byte ∷ bytes) (next_u64 numbers)

-- what is drawn for one after another
abbrev pub drawn : {A : Type 0} → (A → Stream → List ℕ × Stream) → List A → Stream → List (List ℕ) × Stream
drawn draw [] numbers = ([], numbers)
drawn draw (one ∷ others) numbers =
    let first = draw one numbers in
    let rest = drawn draw others first.1 in
    (first.0 ∷ rest.0, rest.1)

-- how many bytes a secret has
abbrev pub size_in : Executable → Secret → ℕ
size_in program secret = size_of (object_named program secret.object.items)

-- what secrets of these sizes are in the first run
abbrev pub first_secrets : ℕ → List ℕ → Stream → List (List ℕ) × Stream
first_secrets attempt = drawn (first_bytes attempt)

-- and in the second
abbrev pub other_secrets : ℕ → List (List ℕ) → Stream → List (List ℕ) × Stream
other_secrets attempt = drawn (other_bytes attempt)

-- the bytes of each secret in the two runs of a try
pub record Try : Type 0 where
  pub one : List (List ℕ)
  pub other : List (List ℕ)

-- so many tries from this one on, where the secrets have these sizes
abbrev pub tries_from : ℕ → ℕ → List ℕ → Stream → List Try
tries_from attempt zero sizes numbers = []
tries_from attempt (suc count) sizes numbers =
    let one = first_secrets attempt sizes numbers in
    let other = other_secrets attempt one.0 one.1 in
    record { one = one.0; other = other.0 } ∷ tries_from (attempt + 1) count sizes other.1

-- the first tries of a request, so many
abbrev pub tries_of : Executable → Asked → ℕ → List Try
tries_of program asked count = tries_from 0 count (map (size_in program) asked.secrets.items) first_numbers
