use Rattle.std.proofs.Common.{arith}
use Rattle.compilation.proofs.blank.blank_words.Goals as goal

pub push_variables-requires : goal.push_variables-requires
push_variables-requires c = c.requires

pub overflow_add-end : goal.overflow_add-end
overflow_add-end c = omega (arith, c.in_ok-end.ensures.end, c.requires)

pub push_words-requires : goal.push_words-requires
push_words-requires c =
    let kept = c.straight_code_is_kept.ensures.bounded in
    omega (arith, c.in_ok-end.ensures.end, c.requires, c.controls.ensures, kept.framed, kept.nodes)
