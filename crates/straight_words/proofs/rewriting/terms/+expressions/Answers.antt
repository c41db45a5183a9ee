use Rattle.std.proofs.Common.{refl}
use Rattle.straight_words.proofs.rewriting.terms.+expressions.Goals as goal

pub rebuilt-returns-in_ok-operand-in-Prefix : goal.rebuilt-returns-in_ok-operand-in-Prefix
rebuilt-returns-in_ok-operand-in-Prefix g t c =
    rw (c.in-Prefix.is, c.in_ok-operand-in-Prefix.ensures, c.deref.ensures) refl

pub rebuilt-returns-in_ok-right-in-Binary : goal.rebuilt-returns-in_ok-right-in-Binary
rebuilt-returns-in_ok-right-in-Binary g t c =
    rw (
      c.in-Binary.is,
      c.in_ok-left-in-Binary.ensures,
      c.in_ok-right-in-Binary.ensures,
      c.deref-in-Binary.ensures,
      c.deref-in-Binary-2.ensures,
    ) refl

pub rebuilt-returns-in_ok-operand-in-Rotate : goal.rebuilt-returns-in_ok-operand-in-Rotate
rebuilt-returns-in_ok-operand-in-Rotate g t c =
    rw (c.in-Rotate.is, c.in_ok-operand-in-Rotate.ensures, c.deref-in-Rotate.ensures) refl

pub rebuilt-returns-in_ok-operand-in-Convert : goal.rebuilt-returns-in_ok-operand-in-Convert
rebuilt-returns-in_ok-operand-in-Convert g t c =
    rw (c.in-Convert.is, c.in_ok-operand-in-Convert.ensures, c.deref-in-Convert.ensures) refl

pub rebuilt-returns-in_ok-otherwise-in-Select : goal.rebuilt-returns-in_ok-otherwise-in-Select
rebuilt-returns-in_ok-otherwise-in-Select g t c =
    rw (
      c.in-Select.is,
      c.in_ok-condition-in-Select.ensures,
      c.in_ok-accepted-in-Select.ensures,
      c.in_ok-otherwise-in-Select.ensures,
      c.deref-in-Select.ensures,
      c.deref-in-Select-2.ensures,
      c.deref-in-Select-3.ensures,
    ) refl

pub rebuilt-returns-in_ok-index-in-Element : goal.rebuilt-returns-in_ok-index-in-Element
rebuilt-returns-in_ok-index-in-Element g t c =
    rw (c.in-Element.is, c.in_ok-index-in-Element.ensures, c.deref-in-Element.ensures) refl
