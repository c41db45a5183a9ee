use Rattle.std.proofs.Common.{List, ℕ, ◌+◌, ◌++◌, ◌∷◌, [], get_or, take, ap, ◌∙◌, sym, subst, append_assoc, append-nil, arith}
use Rattle.std.proofs.lemmas.List.{take_all, take_more}
use Rattle.input_files.specs.harts_file.private.Reading.{HasRead}
use Rattle.input_files.proofs.harts_file.pieces.PlanFile.take_piece.Goals as goal

pub bytes-init : goal.bytes-init
bytes-init c = λ text read. subst (HasRead c.args.self.now) (sym (append-nil text)) read

pub bytes-preserved : goal.bytes-preserved
bytes-preserved c = λ text read.
    let piece = c.args.piece.now in
    let i = c.bytes.byte-index in
    subst (HasRead c.take_byte.new.self)
    (append_assoc text (take i piece) (get_or piece i 0 ∷ [])
    ∙ ap (λ bytes. text ++ bytes) (sym (take_more piece i 0 c.bytes-test.true)))
    (c.in_ok-take_byte.ensures.more (text ++ take i piece) (c.bytes.invariant text read))

pub returns-clause-more : goal.returns-clause-more
returns-clause-more c = λ text read.
    subst (HasRead c.bytes.self)
    (ap (λ bytes. text ++ bytes) (take_all c.bytes.byte-index c.args.piece.now (omega (arith, c.bytes-test.false))))
    (c.bytes.invariant text read)
