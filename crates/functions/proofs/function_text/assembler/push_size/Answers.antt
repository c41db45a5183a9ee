use Rattle.std.proofs.Common.{◌++◌, codes}
use Rattle.std.specs.String.{string_bytes}
use Rattle.std.proofs.lemmas.List.{append_assoc}
use Rattle.functions.proofs.function_text_lemmas.Below.{where_ok}
use Rattle.functions.proofs.function_text.assembler.push_size.Goals as goal

pub returns : goal.returns
returns c =
    let before = string_bytes c.push_str-4.new.self in
    let last = where_ok c.push_str-5.result (string_bytes c.push_str-5.new.self)
    (before ++ codes "\n") before c.push_str-5.ensures.bytes in
    simp append_assoc
    (simp (
      c.in_ok-push_str-4.ensures.bytes,
      c.in_ok-push_str-3.ensures.bytes,
      c.in_ok-push_str-2.ensures.bytes,
      c.in_ok-push_str.ensures.bytes,
      append_assoc,
    )
    at last)
