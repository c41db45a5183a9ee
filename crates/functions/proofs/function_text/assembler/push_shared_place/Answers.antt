use Rattle.std.proofs.Common.{◌≡◌, ◌++◌, ◌∙◌, ap, List, subst, ℕ}
use Rattle.std.specs.Prelude.{OnOk}
use Rattle.std.specs.String.{string_bytes}
use Rattle.functions.specs.function_text.AssemblerText.{frame_line, shared_section, shared_start, shared_symbol}
use Rattle.functions.proofs.function_text_lemmas.AssembledLemmas.{four}
use Rattle.functions.proofs.function_text.assembler.push_shared_place.Goals as goal

pub returns : goal.returns
returns c =
    let old = string_bytes c.args.text.now in
    subst (λ (xs : List ℕ). OnOk c.push_frame.result (string_bytes c.push_frame.new.text ≡ xs))
    (ap (λ (xs : List ℕ). xs ++ frame_line 5 0)
    (c.in_ok-push_str-3.ensures.bytes
    ∙ ap (λ (xs : List ℕ). xs ++ shared_start)
    (c.in_ok-push_str-2.ensures.bytes
    ∙ ap (λ (xs : List ℕ). xs ++ shared_symbol) c.in_ok-push_str.ensures.bytes))
    ∙ four old shared_section shared_symbol shared_start (frame_line 5 0))
    c.push_frame.ensures
