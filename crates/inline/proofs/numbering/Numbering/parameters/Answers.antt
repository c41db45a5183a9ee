use Rattle.std.proofs.Common.{◌≡◌, ◌+◌, ◌∷◌, ◌∙◌, ap, drop, length-append, refl, sym}
use Rattle.std.proofs.lemmas.List.{append-nil, append_assoc, drop_all, drop_more, map_push, take_all, take_more}
use Rattle.inline.proofs.numbering.Numbering.parameters.Goals as goal

pub loop-parameter-preserved : goal.loop-parameter-preserved
loop-parameter-preserved c =
    let p = c.parameter-item.result in
    let l = c.loop-parameter in
    let rest = drop (l.parameter-index + 1) c.args.parameters.now in
    let here : drop l.parameter-index c.args.parameters.now ≡ p ∷ rest =
    drop_more c.args.parameters.now l.parameter-index p c.loop-parameter-test.true
    ∙ ap (λ x. x ∷ rest) (sym c.parameter-item.is) in
    let made = c.in_ok-declare.ensures in
    record {
      params = rw (
        c.in_ok-push.ensures.items,
        take_more c.args.parameters.now l.parameter-index p c.loop-parameter-test.true,
        ← c.parameter-item.is,
        map_push,
        map_push,
        l.invariant.params,
        c.param-param.ensures,
      ) refl;
      names = rw (made.names, made.declared, length-append, c.parameter.ensures, c.param-param.ensures)
          (rw here at l.invariant.names);
      declared = rw (made.declared, append_assoc, c.parameter.ensures, c.param-param.ensures)
          (rw here at l.invariant.declared);
    }

pub returns-clause-params : goal.returns-clause-params
returns-clause-params c =
    let l = c.loop-parameter in
    rw (take_all l.parameter-index c.args.parameters.now c.loop-parameter-test.false) at l.invariant.params

pub returns-clause-names : goal.returns-clause-names
returns-clause-names c =
    let l = c.loop-parameter in
    rw (drop_all l.parameter-index c.args.parameters.now c.loop-parameter-test.false) at l.invariant.names

pub returns-clause-declared : goal.returns-clause-declared
returns-clause-declared c =
    let l = c.loop-parameter in
    sym (append-nil l.declared.items)
    ∙ (rw (drop_all l.parameter-index c.args.parameters.now c.loop-parameter-test.false) at l.invariant.declared)
