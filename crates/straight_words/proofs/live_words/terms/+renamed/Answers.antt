use Rattle.std.proofs.Common.{refl}
use Rattle.straight_words.proofs.live_words.terms.+renamed.Goals as goal

pub renamed-returns-in_ok-operand-in-Prefix : goal.renamed-returns-in_ok-operand-in-Prefix
renamed-returns-in_ok-operand-in-Prefix t c =
    rw (c.in-Prefix.is, c.in_ok-operand-in-Prefix.ensures, c.deref.ensures) refl

pub renamed-returns-in_ok-right-in-Binary : goal.renamed-returns-in_ok-right-in-Binary
renamed-returns-in_ok-right-in-Binary t c =
    rw (
      c.in-Binary.is,
      c.in_ok-left-in-Binary.ensures,
      c.in_ok-right-in-Binary.ensures,
      c.deref-in-Binary.ensures,
      c.deref-in-Binary-2.ensures,
    ) refl

pub renamed-returns-in_ok-operand-in-Rotate : goal.renamed-returns-in_ok-operand-in-Rotate
renamed-returns-in_ok-operand-in-Rotate t c =
    rw (c.in-Rotate.is, c.in_ok-operand-in-Rotate.ensures, c.deref-in-Rotate.ensures) refl

pub renamed-returns-in_ok-operand-in-Convert : goal.renamed-returns-in_ok-operand-in-Convert
renamed-returns-in_ok-operand-in-Convert t c =
    rw (c.in-Convert.is, c.in_ok-operand-in-Convert.ensures, c.deref-in-Convert.ensures) refl

pub renamed-returns-in_ok-otherwise-in-Select : goal.renamed-returns-in_ok-otherwise-in-Select
renamed-returns-in_ok-otherwise-in-Select t c =
    rw (
      c.in-Select.is,
      c.in_ok-condition-in-Select.ensures,
      c.in_ok-accepted-in-Select.ensures,
      c.in_ok-otherwise-in-Select.ensures,
      c.deref-in-Select.ensures,
      c.deref-in-Select-2.ensures,
      c.deref-in-Select-3.ensures,
    ) refl
