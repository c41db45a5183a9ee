use Rattle.std.proofs.Common.{◌≡◌, ◌≢◌, ◌+◌, ◌-◌, ◌++◌, List, sym, ap, ◌∙◌, arith, append_assoc}
use Rattle.functions.specs.Below.{element_bytes, elements_code, Instr}
use Rattle.functions.specs.function_code.private.Ways.{element_code}
use Rattle.functions.proofs.function_code_lemmas.ElementLemmas.{elements_more, few_bytes}
use Rattle.functions.proofs.function_code.copying.elements.Goals as goal

pub elements-preserved : goal.elements-preserved
elements-preserved c =
    let code = element_code c.args.way c.args.kind in
    let bytes = element_bytes c.args.kind in
    let offset = c.elements.offset in
    let left = c.elements.left in
    let some : c.elements.left ≢ 0 = search in
    let step : c.from-offset.result ≡ element_bytes c.args.kind = search in
    let made : c.element.new.code.items
    ≡ c.elements.code.items ++ element_code c.args.way c.args.kind c.elements.offset = c.in_ok-element.ensures in
    let few = few_bytes c.args.kind in
    let near = c.elements.invariant.near in
    record {
      code = ap (λ (xs : List Instr). xs ++ elements_code code bytes (offset + c.from-offset.result) (left - 1)) made
          ∙ append_assoc c.elements.code.items (code offset)
          (elements_code code bytes (offset + c.from-offset.result) (left - 1))
          ∙ ap (λ n. c.elements.code.items ++ (code offset ++ elements_code code bytes (offset + n) (left - 1))) step
          ∙ ap (λ (xs : List Instr). c.elements.code.items ++ xs) (sym (elements_more code bytes offset left some))
          ∙ c.elements.invariant.code;
      near = omega (arith, some, step, few, near);
    }
