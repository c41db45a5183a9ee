use Rattle.std.proofs.Common.{bit_and, arith}
use Rattle.std.proofs.lemmas.Nat.{and_le_l, or_lt, xor_lt}
use Rattle.word.specs.Widths.{bits}
use Rattle.word.specs.Operators.{complemented}
use Rattle.word.specs.declared.width.Width.TheVariants.{W32}
use Rattle.word.proofs.laws.words_stay_words.Goals as goal

pub returns-clause-bit_and : goal.returns-clause-bit_and
returns-clause-bit_and c w a b p = let h = and_le_l a b in omega arith

pub returns-clause-bit_or : goal.returns-clause-bit_or
returns-clause-bit_or c w = or_lt (bits w)

pub returns-clause-bit_xor : goal.returns-clause-bit_xor
returns-clause-bit_xor c w = xor_lt (bits w)

pub returns-clause-selected : goal.returns-clause-selected
returns-clause-selected c w m a b p q =
    let first = and_le_l a m in
    let second = and_le_l b (complemented W32 m) in
    or_lt (bits w) (bit_and a m) (bit_and b (complemented W32 m)) (omega arith) (omega arith)
