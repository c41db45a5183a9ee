use Rattle.std.proofs.Common.{◌++◌, codes}
use Rattle.std.specs.String.{string_bytes}
use Rattle.std.proofs.lemmas.List.{append_assoc}
use Rattle.functions.proofs.function_text_lemmas.Below.{where_ok}
use Rattle.functions.proofs.function_text.lines.push_offset.Goals as goal

pub returns : goal.returns
returns c =
    let before = string_bytes c.push_number.new.text in
    let last = where_ok c.push_str-2.result (string_bytes c.push_str-2.new.self) (before ++ codes "\n")
    before c.push_str-2.ensures.bytes in
    simp append_assoc
    (simp (
      c.in_ok-push_number.ensures,
      c.from.ensures,
      c.in_ok-push_str.ensures.bytes,
      append_assoc,
    )
    at last)
