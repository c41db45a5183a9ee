use Rattle.std.proofs.Common.{◌≡◌, ℕ, ◌++◌, Bool, List, Option, None, Some, ap, append_assoc, refl, sym, subst, ◌∙◌, OnOk}
use Rattle.codegen.proofs.Language.{TermTree, term_tree}
use Rattle.codegen.proofs.Machine.{Frame, Instr, Location}
use Rattle.codegen.proofs.StatementCode.{emitted}
use Rattle.expression_code.specs.Layout.{next_offset, variable_location}
use Rattle.expression_code.specs.TermCode.{mirror_code}
use Rattle.codegen.specs.private.Loops.{counting_home, loop_from, repeat_code, short_number}
use Rattle.codegen.proofs.loops.repeat.Goals as goal

-- what a loop is made of
repeat_is : (layout : Frame) (depth x : ℕ) (low high : TermTree) (is_set : Bool) (body : List Instr) {next : ℕ}
    {counter : Location} {mirror : List Instr} {home bound : Option ℕ} → next ≡ next_offset layout depth
    → counter ≡ variable_location layout.declared layout.allocation x → mirror ≡ mirror_code layout.allocation x
    → home ≡ counting_home counter is_set body → bound ≡ short_number high
    → loop_from layout next counter mirror low high body home bound ≡ repeat_code layout depth x low high is_set body
repeat_is layout depth x low high is_set body next counter mirror home bound = rw (home, bound, next, counter, mirror)

-- a loop whose bounds are in the frame, behind what there is
behind_bounds : (old new code : List Instr) {front whole : List Instr} → front ≡ old ++ new → new ++ code ≡ whole
    → front ++ code ≡ old ++ whole
behind_bounds old new code is all = rw (is, append_assoc) (ap (λ (l : List Instr). old ++ l) all)

pub returns-in-Some-short_number-clause-code : goal.returns-in-Some-short_number-clause-code
returns-in-Some-short_number-clause-code c =
    let loop = c.args.repeat.now in
    c.in_ok-to_number-in-Some-short_number.ensures
    ∙ ap (λ (code : List Instr). c.args.code.now.items ++ code)
    (repeat_is c.args.layout.now c.args.depth loop.counter (term_tree loop.low.now) (term_tree loop.high.now) loop.is_set
    c.args.body.now c.next-next.ensures c.variable_location-counter.ensures
    (c.as_slice-mirror.ensures.value ∙ emitted c.in_ok-mirror.ensures c.new-mirror.ensures.items)
    (sym c.in-Some.is ∙ c.counting_home.ensures) (sym c.in-Some-short_number.is ∙ c.short_number.ensures))

pub returns-clause-code : goal.returns-clause-code
returns-clause-code c =
    let loop = c.args.repeat.now in
    c.in_ok-to_word-in-None.ensures
    ∙ behind_bounds c.args.code.now.items _ _ c.in_ok-bounds-in-None.ensures
    (repeat_is c.args.layout.now c.args.depth loop.counter (term_tree loop.low.now) (term_tree loop.high.now) loop.is_set
    c.args.body.now c.next-next.ensures c.variable_location-counter.ensures
    (c.as_slice-mirror.ensures.value ∙ emitted c.in_ok-mirror.ensures c.new-mirror.ensures.items)
    (sym c.in-Some.is ∙ c.counting_home.ensures) (sym c.in-None.is ∙ c.short_number.ensures))

pub returns-in_default-clause-code : goal.returns-in_default-clause-code
returns-in_default-clause-code c =
    let loop = c.args.repeat.now in
    let code =
    behind_bounds c.args.code.now.items _ _ c.in_ok-bounds.ensures
    (repeat_is c.args.layout.now c.args.depth loop.counter (term_tree loop.low.now) (term_tree loop.high.now) loop.is_set
    c.args.body.now c.next-next.ensures c.variable_location-counter.ensures
    (c.as_slice-mirror.ensures.value ∙ emitted c.in_ok-mirror.ensures c.new-mirror.ensures.items)
    (sym c.in_default.is ∙ c.counting_home.ensures) refl) in
    subst (λ (l : List Instr). OnOk c.tested.result (c.tested.new.code.items ≡ l)) code c.tested.ensures.code
