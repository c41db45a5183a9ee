use Rattle.std.proofs.Common.{◌≡◌, ◌++◌, ◌∙◌, ap₂, append_assoc, codes, List, subst, ℕ}
use Rattle.std.specs.Prelude.{OnOk}
use Rattle.std.specs.String.{string_bytes}
use Rattle.functions.specs.function_text.AssemblerText.{entry_text}
use Rattle.functions.proofs.function_text_lemmas.Below.{where_ok}
use Rattle.functions.proofs.function_text.notation.push_onward.Goals as goal

pub returns : goal.returns
returns c =
    let old = string_bytes c.args.text.now in
    let before = string_bytes c.push_str.new.self in
    let after = string_bytes c.push_str-2.new.self in
    subst (λ (xs : List ℕ). OnOk c.push_str-2.result (after ≡ xs))
    (ap₂ (λ (xs ys : List ℕ). xs ++ ys) c.in_ok-push_str.ensures.bytes c.entry_text.ensures
    ∙ append_assoc old (codes "jal x0, factc.tail.1") (entry_text c.args.room))
    (where_ok c.push_str-2.result after (before ++ c.entry_text.result.now) before c.push_str-2.ensures.bytes)
