use Rattle.std.proofs.Common.{Some, sym, ap, ◌∙◌, arith}
use Rattle.std.specs.Option.{option_map}
use Rattle.std.proofs.lemmas.List.{length-map}
use Rattle.input_files.specs.harts_file.Jobs.{hart_of}
use Rattle.input_files.specs.harts_file.Lines.{turns_of, rounds, said_of}
use Rattle.input_files.specs.harts_file.private.Reading.{said_by_line, given_to}
use Rattle.input_files.proofs.harts_file_lemmas.ReaderLemmas.{turns_answer, turns_taken}
use Rattle.input_files.proofs.harts_file.reader.PlanReader.take.Goals as goal

pub returns-in-Some-Turns-clause-rule : goal.returns-in-Some-Turns-clause-rule
returns-in-Some-Turns-clause-rule c =
    let jobs = c.args.self.now.jobs in
    turns_answer (given_to c.args.self.now) (said_of c.args.text.now)
    (turns_of c.in-Some-Turns.hart c.in-Some-Turns.count)
    (sym (ap (option_map said_by_line) (c.in-Some-Turns.is ∙ ap Some c.in-Some-Turns.field-0-is)) ∙ c.in_ok-path.ensures)
    (omega (arith, length-map jobs.items hart_of, jobs.ok.0, c.args.self.now.few)) c.take_turns.result
    c.take_turns.ensures.rule

pub returns-in-Some-Turns-clause-taken : goal.returns-in-Some-Turns-clause-taken
returns-in-Some-Turns-clause-taken c =
    let jobs = c.args.self.now.jobs in
    turns_taken (given_to c.args.self.now) (said_of c.args.text.now)
    (turns_of c.in-Some-Turns.hart c.in-Some-Turns.count)
    (sym (ap (option_map said_by_line) (c.in-Some-Turns.is ∙ ap Some c.in-Some-Turns.field-0-is)) ∙ c.in_ok-path.ensures)
    (omega (arith, length-map jobs.items hart_of, jobs.ok.0, c.args.self.now.few)) c.take_turns.result
    (given_to c.take_turns.new.self) c.take_turns.ensures.rule c.take_turns.ensures.taken

pub returns-in-Some-Round-clause-rule : goal.returns-in-Some-Round-clause-rule
returns-in-Some-Round-clause-rule c =
    let jobs = c.args.self.now.jobs in
    turns_answer (given_to c.args.self.now) (said_of c.args.text.now) (rounds c.in-Some-Round.count)
    (sym (ap (option_map said_by_line) (c.in-Some-Round.is ∙ ap Some c.in-Some-Round.field-0-is)) ∙ c.in_ok-path.ensures)
    (omega (arith, length-map jobs.items hart_of, jobs.ok.0, c.args.self.now.few)) c.take_rounds.result
    c.take_rounds.ensures.rule

pub returns-in-Some-Round-clause-taken : goal.returns-in-Some-Round-clause-taken
returns-in-Some-Round-clause-taken c =
    let jobs = c.args.self.now.jobs in
    turns_taken (given_to c.args.self.now) (said_of c.args.text.now) (rounds c.in-Some-Round.count)
    (sym (ap (option_map said_by_line) (c.in-Some-Round.is ∙ ap Some c.in-Some-Round.field-0-is)) ∙ c.in_ok-path.ensures)
    (omega (arith, length-map jobs.items hart_of, jobs.ok.0, c.args.self.now.few)) c.take_rounds.result
    (given_to c.take_rounds.new.self) c.take_rounds.ensures.rule c.take_rounds.ensures.taken
