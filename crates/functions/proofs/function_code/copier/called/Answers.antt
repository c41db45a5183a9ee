use Rattle.std.proofs.Common.{◌≡◌, ◌%◌, ◌++◌, List, OnOk, subst, ap, ◌∙◌}
use Rattle.functions.specs.Below.{copied_out_code, element_bytes, elements_code, Instr}
use Rattle.functions.proofs.function_code_lemmas.CallLemmas.{called_is}
use Rattle.functions.proofs.function_code.copier.called.Goals as goal

pub returns : goal.returns
returns c =
    let kind = c.args.kind in
    let rest = elements_code (copied_out_code kind) (element_bytes kind) 0 (c.args.count % c.in_round-each.result) in
    let bytes : c.from.result ≡ element_bytes kind = search in
    subst (λ (xs : List Instr). OnOk c.call_over.result (c.call_over.new.code.items ≡ xs))
    (called_is c.args.round c.args.behind kind c.args.count c.args.code.now.items c.bound.new.code.items
    c.as_slice.result.now c.from.result c.in_round-each.result c.in_ok-bound.ensures
    (c.as_slice.ensures.value ∙ c.in_ok-elements.ensures ∙ ap (λ (xs : List Instr). xs ++ rest) c.new-rest.ensures.items)
    bytes c.in_round-each.ensures.round) c.call_over.ensures
