use Rattle.std.proofs.Common.{◌≡◌, ℕ, ◌++◌, List, Option, OnOk, subst, ap, ap₂, ◌∙◌, append_assoc}
use Rattle.functions.specs.Below.{address_code, array_code, copied_in_code, copier_of, goes_in_as_it_is, Instr}
use Rattle.functions.specs.Below.{pointer_in_code}
use Rattle.linked_calls.specs.declared.round.Round.{Round}
use Rattle.functions.proofs.function_code.arrays.copy_in.Goals as goal

pub returns : goal.returns
returns c =
    let kind = c.args.slot.param.kind in
    let pace = c.args.around.pace in
    let old = c.args.code.now.items in
    let pointer = pointer_in_code c.args.image.now c.args.index in
    let place = address_code 6 c.args.slot.offset in
    let code = λ (copier : Option Round). array_code pace copier c.args.behind (copied_in_code kind) (goes_in_as_it_is kind) kind in
    let placed : c.address.new.code.items ≡ old ++ (pointer ++ place) =
    c.in_ok-address.ensures ∙ ap (λ (xs : List Instr). xs ++ place) c.in_ok-pointer_in.ensures
    ∙ append_assoc old pointer place in
    let same : c.from.result ≡ c.args.slot.param.length = c.from.ensures in
    let shared : c.args.around.copier ≡ copier_of c.args.image.now pace = c.requires.copier in
    let mine = code (copier_of c.args.image.now pace) c.args.slot.param.length in
    subst (λ (xs : List Instr). OnOk c.array.result (c.array.new.code.items ≡ xs))
    (ap₂ (λ (copier : Option Round) (n : ℕ). c.address.new.code.items ++ code copier n) shared same
    ∙ ap (λ (xs : List Instr). xs ++ mine) placed
    ∙ append_assoc old (pointer ++ place) mine) c.array.ensures
