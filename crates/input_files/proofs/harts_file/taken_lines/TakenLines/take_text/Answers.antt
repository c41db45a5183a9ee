use Rattle.std.proofs.Common.{◌≡◌, ◌∙◌, sym}
use Rattle.input_files.specs.harts_file.Lines.{said_of}
use Rattle.input_files.specs.harts_file.private.Reading.{given_to}
use Rattle.input_files.proofs.harts_file_lemmas.TakenLemmas.{first_told, no_first, now_faulty, still_faulty, still_fine}
use Rattle.input_files.proofs.harts_file.taken_lines.TakenLines.take_text.Goals as goal

pub returns-then-is_some-clause-kept : goal.returns-then-is_some-clause-kept
returns-then-is_some-clause-kept c = λ said count taken.
    let self = c.args.self.now in
    still_faulty said (said_of c.args.text.now) self.first (given_to self.plan) taken (given_to self.plan)
    (first_told self.first c.is_some.result c.is_some.ensures c.if-is_some.true)

pub returns-in_default-clause-kept : goal.returns-in_default-clause-kept
returns-in_default-clause-kept c = λ said count taken.
    let self = c.args.self.now in
    still_fine said (said_of c.args.text.now) self.first (given_to self.plan) taken (given_to c.take.new.self)
    (no_first self.first c.is_some.result c.is_some.ensures c.if-is_some.false)
    (sym c.in_ok-rule.ensures.rule ∙ c.in_default.is) (c.in_ok-rule.ensures.taken c.in_default.is)
