use Rattle.std.proofs.Common.{◌++◌, codes}
use Rattle.std.specs.String.{string_bytes}
use Rattle.std.proofs.lemmas.List.{append_assoc}
use Rattle.functions.proofs.function_text_lemmas.Below.{where_ok}
use Rattle.functions.proofs.function_text.header.push_premise.Goals as goal

pub returns : goal.returns
returns c =
    let before = string_bytes c.push_str-3.new.self in
    let last = where_ok c.push_str-4.result (string_bytes c.push_str-4.new.self)
    (
    before
    ++ codes
    "   Arrays are aligned by their elements, lie outside the stack below the caller, and no two that are not const overlap.\n"
    )
    before c.push_str-4.ensures.bytes in
    simp append_assoc
    (simp (
      c.in_ok-push_str-3.ensures.bytes,
      c.in_ok-push_str-2.ensures.bytes,
      c.in_ok-push_str.ensures.bytes,
      append_assoc,
    )
    at last)
