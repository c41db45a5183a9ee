use Rattle.std.proofs.Common.{◌≡◌, ◌+◌, ◌≤◌, ◌∷◌, List, ℕ, Bool, true, false, if◌then◌else◌, ap, arith, drop, length, sym}
use Rattle.std.proofs.lemmas.List.{at_drop_all}
use Rattle.functions.specs.Below.{is_written, written_of}
use Rattle.functions.proofs.Steps.{next_item}
use Rattle.functions.proofs.function_code.kept.written_count.Goals.{then-is_written, else-is_written}
use Rattle.functions.proofs.function_code.kept.written_count.Goals as goal

-- a register that is kept or not counts before others
counts_before : (kept : Bool) (register : ℕ) (rest : List ℕ)
    → length (if kept then register ∷ rest else rest) ≡ (if kept then 1 else 0) + length rest
counts_before true register rest = omega arith
counts_before false register rest = omega arith

at_most_one : (kept : Bool) → (if kept then 1 else 0) ≤ 1
at_most_one true = omega arith
at_most_one false = omega arith

pub loop-register-preserved : goal.loop-register-preserved
loop-register-preserved c =
    let l = c.loop-register in
    let words = c.args.words.now in
    let registers = c.args.registers.now in
    let register = c.register-item.result in
    let kept = is_written words register in
    let next = next_item registers l.register-index register c.loop-register-test.true c.register-item.is in
    let rest = written_of words (drop (l.register-index + 1) registers) in
    let counted : c.if-is_written.count ≡ l.count + (if is_written words register then 1 else 0) =
    elim c.if-is_written.branch [
      | then-is_written w ↦ rw (w.count-is, sym c.is_written.ensures, w.if-is_written.true) (omega arith)
      | else-is_written w ↦ rw (w.count-is, sym c.is_written.ensures, w.if-is_written.false) (omega arith)
    ] in
    record {
      all = omega (
        arith,
        l.invariant.all,
        counted,
        ap (λ rs. length (written_of words rs)) next,
        counts_before kept register rest,
      );
      few = omega (arith, l.invariant.few, counted, ap (λ rs. length rs) next, at_most_one kept);
    }

pub returns-clause-count : goal.returns-clause-count
returns-clause-count c =
    let l = c.loop-register in
    let rest = λ (rs : List ℕ). length (written_of c.args.words.now rs) in
    omega (
      arith,
      l.invariant.all,
      at_drop_all rest c.args.registers.now l.register-index c.loop-register-test.false,
    )

pub returns-clause-few : goal.returns-clause-few
returns-clause-few c = omega (arith, c.loop-register.invariant.few)
