use Rattle.std.proofs.Common.{◌++◌, List, ap, sym, subst, ◌∙◌, ℕ}
use Rattle.input_files.specs.Below.{GainsPart}
use Rattle.input_files.proofs.stream_build.laws.streams_agree.Goals as goal

pub returns-clause-written : goal.returns-clause-written
returns-clause-written c = λ optimisation profile text before one other a b.
    a.added ∙ ap (λ (bytes : List ℕ). before ++ bytes)
    (c.builds_agree.ensures optimisation profile text a.bytes b.bytes a.such b.such) ∙ sym b.added

pub returns-clause-answered : goal.returns-clause-answered
returns-clause-answered c = λ optimisation profile text bytes before after built w.
    w.added ∙ ap (λ (xs : List ℕ). before ++ xs)
    (c.builds_agree.ensures optimisation profile text w.bytes bytes w.such built)

pub returns-clause-begun : goal.returns-clause-begun
returns-clause-begun c = λ optimisation profile text bytes before after built w.
    subst (λ (xs : List ℕ). GainsPart before after xs)
    (c.builds_agree.ensures optimisation profile text w.bytes bytes w.such built) w.part
