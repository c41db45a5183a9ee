use Rattle.std.proofs.Common.{refl}
use Rattle.optimisation.proofs.constants.terms.+simple.Goals as goal

pub simple-returns-in_ok-operand-in-Prefix : goal.simple-returns-in_ok-operand-in-Prefix
simple-returns-in_ok-operand-in-Prefix t c =
    rw (c.in-Prefix.is, ← c.deref.ensures, ← c.in_ok-operand-in-Prefix.ensures) c.prefixed.ensures

pub simple-returns-in_ok-right-in-Binary : goal.simple-returns-in_ok-right-in-Binary
simple-returns-in_ok-right-in-Binary t c =
    rw (
      c.in-Binary.is,
      ← c.deref-in-Binary.ensures,
      ← c.deref-in-Binary-2.ensures,
      ← c.in_ok-left-in-Binary.ensures,
      ← c.in_ok-right-in-Binary.ensures,
    ) c.binary.ensures

pub simple-returns-in_ok-operand-in-Rotate : goal.simple-returns-in_ok-operand-in-Rotate
simple-returns-in_ok-operand-in-Rotate t c =
    rw (c.in-Rotate.is, ← c.deref-in-Rotate.ensures, ← c.in_ok-operand-in-Rotate.ensures) c.rotate.ensures

pub simple-returns-in_ok-operand-in-Convert : goal.simple-returns-in_ok-operand-in-Convert
simple-returns-in_ok-operand-in-Convert t c =
    rw (c.in-Convert.is, ← c.deref-in-Convert.ensures, ← c.in_ok-operand-in-Convert.ensures) c.convert.ensures

pub simple-returns-in_ok-index-in-Element : goal.simple-returns-in_ok-index-in-Element
simple-returns-in_ok-index-in-Element t c =
    rw (c.in-Element.is, c.in_ok-index-in-Element.ensures, c.deref-in-Element.ensures) refl
