use Rattle.std.proofs.Common.{◌≡◌, ◌++◌, ◌∙◌, ap, codes, List, subst, ℕ}
use Rattle.std.specs.Prelude.{OnOk}
use Rattle.std.specs.String.{string_bytes}
use Rattle.functions.specs.function_text.AssemblerText.{size_lines}
use Rattle.functions.specs.function_text.Functions.{parts_of}
use Rattle.functions.proofs.function_text_lemmas.AssembledLemmas.{tail_are}
use Rattle.functions.proofs.function_text_lemmas.Below.{where_ok}
use Rattle.functions.proofs.function_text.assembler.push_tail.Goals as goal

pub returns : goal.returns
returns c =
    let old = string_bytes c.args.text.now in
    let before = string_bytes c.push_shared_part.new.text in
    let after = string_bytes c.push_str.new.self in
    subst (λ (xs : List ℕ). OnOk c.push_str.result (after ≡ xs))
    (tail_are c.args.notation (parts_of c.args.function.now) old (string_bytes c.push_size.new.text) before
    (c.in_ok-push_size.ensures ∙ ap (λ (name : List ℕ). old ++ size_lines name) c.as_str.ensures)
    c.in_ok-push_shared_part.ensures)
    (where_ok c.push_str.result after (before ++ codes "    .option pop\n") before c.push_str.ensures.bytes)
