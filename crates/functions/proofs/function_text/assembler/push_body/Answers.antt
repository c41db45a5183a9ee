use Rattle.std.proofs.Common.{append_assoc}
use Rattle.std.specs.String.{string_bytes}
use Rattle.functions.proofs.function_text.assembler.push_body.Goals as goal

pub returns-clause-written : goal.returns-clause-written
returns-clause-written c = (
  string_bytes c.push_words.new.lines,
  rw c.body.ensures at c.in_ok-end.ensures.written,
  simp (
    c.in_ok-push_str-2.ensures.bytes,
    c.as_str.ensures.value,
    c.in_ok-push_str.ensures.bytes,
    append_assoc,
  ),
)

pub returns-clause-ends : goal.returns-clause-ends
returns-clause-ends c = rw c.body.ensures at c.in_ok-end.ensures.ends
