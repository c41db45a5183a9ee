use Rattle.std.proofs.Common.{◌++◌}
use Rattle.std.specs.String.{string_bytes}
use Rattle.functions.specs.function_text.HeaderText.{include_lines}
use Rattle.functions.proofs.function_text_lemmas.Below.{where_ok}
use Rattle.functions.proofs.function_text.header.push_includes.Goals as goal

pub returns : goal.returns
returns c =
    let before = string_bytes c.args.text.now in
    where_ok c.push_str.result (string_bytes c.push_str.new.self) (before ++ include_lines) before c.push_str.ensures.bytes
