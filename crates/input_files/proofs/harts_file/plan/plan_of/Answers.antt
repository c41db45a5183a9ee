use Rattle.std.proofs.Common.{◌≡◌, ◌≤◌, length, map, vec_len, sym, ap, ◌∙◌, arith}
use Rattle.std.proofs.lemmas.Bool.Decides.{nat_tests}
use Rattle.std.proofs.lemmas.List.{length-map}
use Rattle.input_files.specs.harts_file.Jobs.{hart_of}
use Rattle.input_files.specs.harts_file.private.Reading.{given_to}
use Rattle.input_files.proofs.harts_file_lemmas.AnswerLemmas.{plan_given, none_given}
use Rattle.input_files.proofs.harts_file_lemmas.KnownTurns.{known_given}
use Rattle.input_files.proofs.harts_file_lemmas.TakenLemmas.{faulty_in, fine_in}
use Rattle.input_files.proofs.harts_file.plan.plan_of.Goals as goal

pub returns-in-Some-clause-fault : goal.returns-in-Some-clause-fault
returns-in-Some-clause-fault c = λ text taken. (
  taken.utf8 c.if-not-taken.false,
  faulty_in c.args.taken text c.in-Some.fault taken c.if-not-taken.false c.in-Some.is,
)

pub returns-then-is_empty-clause-fault : goal.returns-then-is_empty-clause-fault
returns-then-is_empty-clause-fault c = λ text taken.
    let fine = fine_in c.args.taken text taken c.if-not-taken.false c.in_default.is in
    let jobs = c.args.taken.plan.jobs in
    let nobody : length (map hart_of jobs.items) ≡ 0 =
    grind (arith, nat_tests, length-map jobs.items hart_of, jobs.ok.0, c.is_empty.ensures, c.if-is_empty.true) in
    (taken.utf8 c.if-not-taken.false, none_given text (given_to c.args.taken.plan) fine.planned fine.given nobody)

pub invariant_of-result : goal.invariant_of-result
invariant_of-result c =
    let text = c.requires.0 in
    let fine = fine_in c.args.taken text c.requires.1 c.if-not-taken.false c.in_default.is in
    let jobs = c.args.taken.plan.jobs in
    let count : length (map hart_of jobs.items) ≡ vec_len jobs =
    omega (arith, length-map jobs.items hart_of, jobs.ok.0) in
    record {
      few = c.args.taken.plan.few;
      known = known_given text (given_to c.args.taken.plan) fine.planned fine.given (vec_len jobs) count;
      short = c.args.taken.plan.short;
    }

pub returns-clause-plan : goal.returns-clause-plan
returns-clause-plan c = λ text taken.
    let fine = fine_in c.args.taken text taken c.if-not-taken.false c.in_default.is in
    let jobs = c.args.taken.plan.jobs in
    let there : 1 ≤ length (map hart_of jobs.items) =
    grind (arith, nat_tests, length-map jobs.items hart_of, jobs.ok.0, c.is_empty.ensures, c.if-is_empty.false) in
    (taken.utf8 c.if-not-taken.false, plan_given text (given_to c.args.taken.plan) fine.planned fine.given there)
