use Rattle.std.proofs.Common.{◌≡◌, ◌++◌, ◌∙◌, ap, codes, List, subst, sym, ℕ}
use Rattle.std.specs.Prelude.{OnOk}
use Rattle.std.specs.String.{string_bytes}
use Rattle.functions.specs.function_text.AssemblerText.{shared_text}
use Rattle.functions.proofs.function_text_lemmas.Below.{where_ok}
use Rattle.functions.proofs.function_text_lemmas.SharedTexts.{shared_count}
use Rattle.functions.proofs.function_text.assembler.push_shared_words.Goals as goal

pub returns-in-Small : goal.returns-in-Small
returns-in-Small c =
    let before = string_bytes c.args.text.now in
    let after = string_bytes c.push_str.new.self in
    subst (λ (xs : List ℕ). OnOk c.push_str.result (after ≡ before ++ xs))
    (sym (ap shared_text c.in-Small.is ∙ shared_count))
    (where_ok c.push_str.result after (before ++ codes " and 21 shared") before c.push_str.ensures.bytes)
