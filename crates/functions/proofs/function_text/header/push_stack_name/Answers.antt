use Rattle.std.proofs.Common.{◌++◌, codes}
use Rattle.std.specs.String.{string_bytes}
use Rattle.std.proofs.lemmas.List.{append_assoc}
use Rattle.functions.proofs.function_text_lemmas.Below.{where_ok}
use Rattle.functions.proofs.function_text.header.push_stack_name.Goals as goal

pub returns : goal.returns
returns c =
    let before = string_bytes c.push_str.new.self in
    let last = where_ok c.push_str-2.result (string_bytes c.push_str-2.new.self) (before ++ codes "_STACK_BYTES") before
    c.push_str-2.ensures.bytes in
    simp (c.in_ok-push_str.ensures.bytes, append_assoc) at last
