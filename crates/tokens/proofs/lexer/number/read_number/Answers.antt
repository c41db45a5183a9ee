use Rattle.std.proofs.Common.{sym, subst}
use Rattle.tokens.specs.Spelling.{WritesValue}
use Rattle.tokens.proofs.TokenNumbers.{number_cut}
use Rattle.tokens.proofs.lexer.number.read_number.Goals as goal

pub returns-in_err-suffix-clause-none : goal.returns-in_err-suffix-clause-none
returns-in_err-suffix-clause-none c =
    rw c.from_residual.ensures
    (λ value suffix n. c.in_err-suffix.ensures suffix
    (sym (number_cut _ _ _ c.split_digits.ensures value suffix n).1))

pub returns-in_err-value-clause-none : goal.returns-in_err-value-clause-none
returns-in_err-value-clause-none c =
    rw c.from_residual-in_err-value.ensures
    (λ value suffix n. c.in_err-value.ensures.none value
    (subst (λ l. WritesValue l value) (number_cut _ _ _ c.split_digits.ensures value suffix n).0 n.written)
    n.small)
