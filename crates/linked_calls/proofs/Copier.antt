-- The copier by itself: so many bytes by words or one by one, as the pointer is.
use Rattle.std.proofs.Common.{◌≡◌, ℕ, ◌+◌, ◌*◌, ◌/◌, ◌%◌, ◌^◌, ◌<◌, inl, inr, refl, sym, ap, ◌∙◌, subst, arith}
use Rattle.expression_code.proofs.program_logic_lemmas.Counted.{in_steps, Runs, Setting, weaken_runs}
use Rattle.linked_calls.proofs.Below.{MachineCode, numbers_at, Uint8, with_numbers}
use Rattle.linked_calls.proofs.Copies.{two_bits, two_bits_back}
use Rattle.linked_calls.proofs.CopyArrays.{copies_run, IsTested}
use Rattle.linked_calls.proofs.CopyNumbers.{CanCopy, Numbers}
use Rattle.linked_calls.proofs.MovedBytes.{AreMoved, numbers_moved, one_moved}
use Rattle.linked_calls.proofs.Pieces.{does, placed}
use Rattle.linked_calls.specs.Copies.{bytes_moved, CanBeMoved, CopierCopies, HasMoving, IsCopying, IsMoved, Moving}
use Rattle.linked_calls.specs.FunctionCode.{copies_code, in_round}
use Rattle.linked_calls.specs.Paces.{times}
use Rattle.linked_calls.specs.Sections.{copier_steps}
use Rattle.linked_calls.specs.declared.round.Round.{Round}
use Rattle.linked_calls.specs.declared.round.Round.TheVariants.{Four, One, Two}

same_rounds : (round : Round) (m : ℕ) → 4 * (times round * m) / in_round round Uint8 ≡ m
same_rounds One m = omega arith
same_rounds Two m = omega arith
same_rounds Four m = omega arith

module _ (code : MachineCode) (round : Round) (moving : Moving) (can : CanBeMoved round moving) where
  abbrev z : Setting
  z = record {
    code = code;
    allowed = IsCopying moving.frame moving.from (bytes_moved round moving) moving.from moving.to;
    silent = λ sp. tt;
  }

  abbrev count : ℕ
  count = bytes_moved round moving

  abbrev array : Numbers
  array = record {
    kind = Uint8;
    count = count;
    frame = moving.frame;
    source = moving.from;
    target = moving.to;
  }

  can_copy : CanCopy z array
  can_copy =
      let one = can.from_ends in
      let other = can.to_ends in
      let small = can.few in
      let all : 1 * count ≡ count = omega arith in
      record {
        source_even = omega arith;
        target_even = omega arith;
        source_ends = omega arith;
        target_ends = omega arith;
        few = omega arith;
        apart = elim can.apart [ inl before ↦ inl (omega arith) | inr behind ↦ inr (omega arith) ];
        loads = λ a size lies. (inr (lies.0, omega (arith, lies.1)), refl);
        stores = λ a size lies. ((lies.0, omega (arith, lies.1)), refl);
      }

  tested : IsTested array moving.pointer
  tested = elim can.aligned [
    | inl at ↦ record {
      is = two_bits moving.from moving.to at.1 ∙ ap (λ x. x % 4) at.0;
      even = λ even. (ap (λ x. x % 4) at.0 ∙ even, at.1);
    }
    | inr at ↦ record {
      is = two_bits_back moving.from moving.to at.1 ∙ ap (λ x. x % 4) at.0;
      even = λ even. (at.1, ap (λ x. x % 4) at.0 ∙ even);
    }
  ]

  rounds_are : count / in_round round Uint8 ≡ moving.rounds
  rounds_are = same_rounds round moving.rounds

  gone_is : 4 * (times round * (count / in_round round Uint8)) ≡ count
  gone_is = ap (λ m. 4 * (times round * m)) rounds_are

  moves : Runs z (copier_steps round moving.rounds moving.pointer) (copies_code round) (HasMoving round moving)
      (IsMoved round moving)
  moves =
      let all : 1 * count ≡ count = omega arith in
      weaken_runs z {P' = HasMoving round moving} {R' = IsMoved round moving}
      (in_steps z (ap (λ m. copier_steps round m moving.pointer) rounds_are)
      (copies_run z round array can_copy moving.pointer tested (subst (λ m. 0 < m) (sym rounds_are) can.some)))
      (λ s has. record {
        begins = record {
          places = record {
            stack = has.stack;
            source = has.from;
            target = has.to;
            from_there = λ x low high. has.from_there x low (omega arith);
            to_there = λ x low high. has.to_there x low (omega arith);
          };
          bytes = has.bytes;
        };
        stop = has.end ∙ ap (λ m. (moving.from + m) % 2 ^ 32) (sym gone_is);
      })
      (λ s t has moved. record {
        bytes = one_moved s.bytes s.bytes t.bytes
            (with_numbers s.bytes 1 moving.to (numbers_at s.bytes 1 moving.from count)) moving.from moving.to (1 * count)
            (subst (λ m. AreMoved s.bytes s.bytes t.bytes moving.from moving.to m) (gone_is ∙ sym all) moved.bytes)
            (numbers_moved s.bytes has.bytes s.bytes 1 moving.from moving.to count
            (λ x low high. has.from_there x low (omega arith)));
        from = moved.source ∙ ap (λ m. (moving.from + m) % 2 ^ 32) gone_is;
        to = moved.target ∙ ap (λ m. (moving.to + m) % 2 ^ 32) gone_is;
        others = moved.others;
      })

pub copier_copies : CopierCopies
copier_copies code start round moving there can =
    does (z code round moving can) start (copies_code round) (placed code start (copies_code round) there)
    (moves code round moving can)
