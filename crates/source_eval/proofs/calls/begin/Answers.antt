use Rattle.std.proofs.Common.{ap, map, sym, ◌∙◌}
use Rattle.std.specs.Option.{option_map}
use Rattle.source_eval.specs.Views.{held, value_of, word_of}
use Rattle.source_eval.proofs.BeginningLemmas.{begun_all, begun_early, begun_more, begun_same}
use Rattle.source_eval.proofs.calls.begin.Goals as goal
use Rattle.source_eval.proofs.calls.begin.Goals.{in-Some-2+in_ok-set_first, in_default-2}

pub returns-in_default-clause-ok : goal.returns-in_default-clause-ok
returns-in_default-clause-ok c =
    let l = c.loop-index in
    begun_early _ _ (held l.inner) c.args.parameters.now c.args.arguments.now l.index (map word_of l.left.now)
    c.in_default.ensures.lookup.0 l.invariant

pub loop-index-preserved : goal.loop-index-preserved
loop-index-preserved c =
    let l = c.loop-index in
    let argument = c.in-Some.ensures.lookup in
    let holds = c.in_ok-value.ensures.ok in
    elim c.match-branch-2.branch [
      | in-Some-2+in_ok-set_first w ↦
          begun_more _ _ c.args.parameters.now c.args.arguments.now l.index c.index-parameters-index.result
          c.in-Some.argument.now c.loop-index-test.true argument.3.0 c.index-parameters-index.is argument.1
          (map word_of l.left.now) (map word_of c.words_left-left.result.now) c.words_left-left.ensures (held l.inner)
          l.invariant
          (value_of w.in-Some-2.value) (held c.match-branch-2.inner) (sym (ap (option_map value_of) w.in-Some-2.is)
          ∙ holds) (ap held w.inner-is ∙ w.in_ok-set_first.ensures.ok)
      | in_default-2 w ↦
          begun_same _ _ c.args.parameters.now c.args.arguments.now l.index c.index-parameters-index.result
          c.in-Some.argument.now c.loop-index-test.true argument.3.0 c.index-parameters-index.is argument.1
          (map word_of l.left.now) (map word_of c.words_left-left.result.now) c.words_left-left.ensures (held l.inner)
          l.invariant
          (held c.match-branch-2.inner) (sym (ap (option_map value_of) w.in_default-2.is)
          ∙ holds) (ap held w.inner-is)
    ]

pub returns-clause-ok : goal.returns-clause-ok
returns-clause-ok c =
    let l = c.loop-index in
    begun_all _ _ (held l.inner) c.args.parameters.now c.args.arguments.now l.index (map word_of l.left.now)
    c.loop-index-test.false l.invariant
