use Rattle.std.proofs.Common.{◌≡◌, ℕ, ◌+◌, ◌<◌, ◌++◌, List, [], ◌∷◌, drop, get_or, length, Option, append_assoc, append-nil}
use Rattle.std.proofs.Common.{ap, sym, ◌∙◌}
use Rattle.std.proofs.lemmas.List.{at_drop_all, at_drop_more}
use Rattle.expression_code.specs.declared.allocation.Mirror.{Mirror}
use Rattle.codegen.specs.private.Homes.{mirror_in, mirrors_from}
use Rattle.codegen.specs.private.MirrorUses.{Uses}
use Rattle.codegen.proofs.homes.mirrors.Goals as goal

-- one more mirror
one_more : (uses : Uses) (registers : List (Option ℕ)) (x : ℕ) (r : Option ℕ) (mirror : Option Mirror)
    (old new : List (Option Mirror)) → x < length registers → r ≡ get_or registers x r
    → mirror ≡ mirror_in uses x r → new ≡ old ++ mirror ∷ []
    → new ++ mirrors_from uses (x + 1) (drop (x + 1) registers) ≡ old ++ mirrors_from uses x (drop x registers)
one_more uses registers x r mirror old new less there is pushed =
    let here = at_drop_more (mirrors_from uses x) registers x r less
    ∙ ap (λ (first : Option ℕ). mirrors_from uses x (first ∷ drop (x + 1) registers)) (sym there) in
    rw (pushed, is, here, append_assoc)

pub loop-variable-preserved : goal.loop-variable-preserved
loop-variable-preserved c =
    let l = c.loop-variable in
    one_more c.args.uses.now c.args.registers.now l.variable c.index-registers-variable.result
    c.mirror_in.result l.mirrors.items c.push.new.self.items c.loop-variable-test.true c.index-registers-variable.is
    c.mirror_in.ensures c.in_ok-push.ensures.items
    ∙ l.invariant

pub returns : goal.returns
returns c =
    let l = c.loop-variable in
    let none = at_drop_all (mirrors_from c.args.uses.now l.variable) c.args.registers.now l.variable
    c.loop-variable-test.false in
    sym (append-nil l.mirrors.items) ∙ rw none at l.invariant
