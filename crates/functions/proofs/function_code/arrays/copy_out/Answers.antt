use Rattle.std.proofs.Common.{◌≡◌, ℕ, ◌++◌, List, Option, OnOk, true, subst, ap, ap₂, ◌∙◌, append_assoc}
use Rattle.functions.specs.Below.{address_code, array_code, copied_out_code, copier_of, Instr, pointer_out_code}
use Rattle.linked_calls.specs.declared.round.Round.{Round}
use Rattle.functions.proofs.function_code.arrays.copy_out.Goals as goal

pub returns : goal.returns
returns c =
    let kind = c.args.slot.param.kind in
    let pace = c.args.around.pace in
    let old = c.args.code.now.items in
    let place = address_code 5 c.args.slot.offset in
    let pointer = pointer_out_code c.args.image.now c.args.index in
    let code = λ (copier : Option Round). array_code pace copier c.args.behind (copied_out_code kind) true kind in
    let placed : c.pointer_out.new.code.items ≡ old ++ (place ++ pointer) =
    c.in_ok-pointer_out.ensures ∙ ap (λ (xs : List Instr). xs ++ pointer) c.in_ok-address.ensures
    ∙ append_assoc old place pointer in
    let same : c.from.result ≡ c.args.slot.param.length = c.from.ensures in
    let shared : c.args.around.copier ≡ copier_of c.args.image.now pace = c.requires.copier in
    let mine = code (copier_of c.args.image.now pace) c.args.slot.param.length in
    subst (λ (xs : List Instr). OnOk c.array.result (c.array.new.code.items ≡ xs))
    (ap₂ (λ (copier : Option Round) (n : ℕ). c.pointer_out.new.code.items ++ code copier n) shared same
    ∙ ap (λ (xs : List Instr). xs ++ mine) placed
    ∙ append_assoc old (place ++ pointer) mine) c.array.ensures
