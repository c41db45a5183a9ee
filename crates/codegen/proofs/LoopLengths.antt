-- How long the code of a loop is, by that of its body.
use Rattle.std.proofs.Common.{◌≡◌, ℕ, ◌+◌, ◌-◌, ◌*◌, ◌≤◌, ◌<◌, Bool, List, ◌++◌, length, Option, None, Some, arith}
use Rattle.std.proofs.Common.{length-append}
use Rattle.codegen.proofs.Language.{TermTree, term_nodes}
use Rattle.codegen.proofs.Logic.{load_length, move_length, store_length}
use Rattle.codegen.proofs.Machine.{AreNear, far, Instr, Location, bounds_code, count_code, read_register, Frame}
use Rattle.codegen.proofs.Machine.{home_of, mirror_code, mirror_of, test_code, next_offset, variable_location}
use Rattle.codegen.proofs.Mirroring.{mirror_length}
use Rattle.codegen.proofs.WordLengths.{assign_length, put_word_length, read_length}
use Rattle.codegen.specs.private.Jumps.{again_code}
use Rattle.codegen.specs.private.Loops.{counted_code, counting_home, first_below, iteration_code, loop_from}
use Rattle.codegen.specs.private.Loops.{repeat_code, short_number, to_number_code, to_word_code}

-- as long as a body, and so many instructions more at most
abbrev pub Spans : List Instr → ℕ → List Instr → Type 0
Spans body more code = (length body ≤ length code) × (length code ≤ length body + more)

again_length : (register : ℕ) (body : List Instr) → length (again_code register body) ≡ length body + 1
again_length register body = omega (arith, length-append {A = Instr})

counted_length : (home : ℕ) (mirror : List Instr) (value last : ℕ) (body : List Instr)
    → length (counted_code home mirror value last body) ≡ length mirror + length body + 4
counted_length home mirror value last body =
    omega (arith, again_length 5 (iteration_code home mirror last body), length-append {A = Instr})

module _ (layout : Frame) (next : ℕ) (body : List Instr) where
  bounds_length : (low high : TermTree) → length (bounds_code layout next low high)
      ≤ 16 * term_nodes low + 16 * term_nodes high + 6
  bounds_length low high =
      omega (
        arith,
        length-append {A = Instr},
        assign_length layout low next,
        assign_length layout high (next + 4),
      )

  number_spans : (mirror : List Instr) → length mirror ≤ 2 → (low high : TermTree) (h bound : ℕ)
      (first_number : Option ℕ) → Spans body (16 * term_nodes low + 16 * term_nodes high + 32)
      (to_number_code layout h mirror low bound body first_number)
  number_spans mirror few low high h bound (Some value) =
      let e = counted_length h mirror value (bound - 1) body in (omega (arith, e), omega (arith, e, few))
  number_spans mirror few low high h bound None =
      let e = length-append {A = Instr} in
      let m = move_length h (read_register layout.allocation 5 low) in
      (omega (arith, e), omega (arith, e, few, m, read_length layout 5 0 low))

  from_spans : (counter : Location) (mirror : List Instr) → length mirror ≤ 2 → (low high : TermTree)
      (home bound : Option ℕ) → Spans body (16 * term_nodes low + 16 * term_nodes high + 32)
      (loop_from layout next counter mirror low high body home bound)
  from_spans counter mirror few low high (Some h) (Some bound) =
      number_spans mirror few low high h bound (first_below bound low)
  from_spans counter mirror few low high (Some h) None =
      let e = length-append {A = Instr} in
      let m = move_length h 6 in
      (omega (arith, e), omega (arith, e, few, bounds_length low high, load_length, m))
  from_spans counter mirror few low high None bound =
      let e = length-append {A = Instr} in
      let p = put_word_length 6 counter in
      (omega (arith, e), omega (arith, e, few, bounds_length low high, load_length, store_length, p))

pub repeat_spans : (layout : Frame) (depth x : ℕ) (body : List Instr) (low high : TermTree) (is_set : Bool)
    → Spans body (16 * term_nodes low + 16 * term_nodes high + 32)
    (repeat_code layout depth x low high is_set body)
repeat_spans layout depth x body low high is_set =
    let counter = variable_location layout.declared layout.allocation x in
    from_spans layout (next_offset layout depth) body counter (mirror_code layout.allocation x)
    (mirror_length (home_of layout.allocation.homes x) (mirror_of layout.allocation x)) low high
    (counting_home counter is_set body)
    (short_number high)

-- so the iterations of a loop that does not count are no farther than a jump goes, where the loop is not too long
pub iteration_near : (next : ℕ) (bounds : List Instr) (counter : Location) (mirror body : List Instr)
    → length (bounds ++ to_word_code next counter mirror body None) < far
    → AreNear (length (test_code next)) (length (count_code next counter mirror ++ body))
iteration_near next bounds counter mirror body few = omega (arith, length-append {A = Instr}, few)
