use Rattle.std.proofs.Common.{◌≡◌, List, subst, ℕ}
use Rattle.std.specs.Prelude.{OnOk}
use Rattle.std.specs.String.{string_bytes}
use Rattle.functions.specs.function_text.Functions.{parts_of}
use Rattle.functions.proofs.function_text_lemmas.AssembledLemmas.{shared_are}
use Rattle.functions.proofs.function_text.assembler.push_shared.Goals as goal

pub returns : goal.returns
returns c =
    subst (λ (xs : List ℕ). OnOk c.push_size.result (string_bytes c.push_size.new.text ≡ xs))
    (shared_are c.args.notation (parts_of c.args.function.now) (string_bytes c.args.text.now)
    (string_bytes c.push_shared_place.new.text) (string_bytes c.push_wiping.new.text)
    (string_bytes c.push_sections.new.text) c.in_ok-wiped.wiped c.in_ok-push_shared_place.ensures
    c.in_ok-wiped.ensures.written c.in_ok-wiped.ensures.ends c.in_ok-push_sections.ensures.written)
    c.push_size.ensures
