use Rattle.std.proofs.Common.{sym, append-nil, ◌∙◌, map}
use Rattle.std.proofs.lemmas.List.{at_drop_all}
use Rattle.codegen.specs.Below.{word_of}
use Rattle.codegen.proofs.generator.words.Goals as goal

pub returns-clause-words : goal.returns-clause-words
returns-clause-words c =
    let l = c.loop-instruction in
    let none = at_drop_all (map word_of) c.args.code.now l.instruction-index c.loop-instruction-test.false in
    sym (append-nil l.words.items) ∙ rw none at l.invariant.made

pub returns-clause-fit : goal.returns-clause-fit
returns-clause-fit c = c.loop-instruction.invariant.fit
