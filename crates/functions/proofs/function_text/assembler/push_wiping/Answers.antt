use Rattle.std.proofs.Common.{◌≡◌, ◌++◌, ◌∙◌, ap, List}
use Rattle.functions.specs.Below.{Instr, wipe_code}
use Rattle.functions.proofs.function_text.assembler.push_wiping.Goals as goal

pub returns-clause-written : goal.returns-clause-written
returns-clause-written c =
    let made : c.as_slice.result.now ≡ wipe_code 16 = c.as_slice.ensures.value ∙ c.in_ok-wiped_room.ensures
    ∙ ap (λ (xs : List Instr). xs ++ wipe_code 16) c.new-wiping.ensures.items in
    rw made at c.push_section.ensures.written
