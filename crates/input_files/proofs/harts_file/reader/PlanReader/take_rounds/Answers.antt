use Rattle.std.proofs.Common.{◌++◌, length, map, vec_len, sym, ap, ◌∙◌, arith, append_assoc, add-mul, one-mul}
use Rattle.std.specs.List.{range_with_len, repeat}
use Rattle.std.proofs.lemmas.List.{length-map}
use Rattle.input_files.specs.harts_file.Jobs.{hart_of}
use Rattle.input_files.proofs.harts_file_lemmas.RoundLemmas.{repeat_more}
use Rattle.input_files.proofs.harts_file_lemmas.ReaderLemmas.{too_many_rounds}
use Rattle.input_files.proofs.harts_file.reader.PlanReader.take_rounds.Goals as goal

pub loop-preserved : goal.loop-preserved
loop-preserved c =
    let before = c.args.self.now.schedule.items in
    let n = c.loop.counter in
    let round = range_with_len 0 c.len-harts.result in
    let inv = c.loop.invariant in
    record {
      jobs = c.in_ok-push_round-in-Some.ensures.jobs ∙ inv.jobs;
      harts = ap vec_len c.in_ok-push_round-in-Some.ensures.jobs ∙ inv.harts;
      begun = c.in_ok-push_round-in-Some.ensures.begun ∙ inv.begun;
      turns =
          c.in_ok-push_round-in-Some.ensures.turns
          ∙ ap (λ k. c.loop.self.schedule.items ++ range_with_len 0 k) inv.harts ∙ ap (λ l. l ++ round) inv.turns
          ∙ append_assoc before (repeat n round) round ∙ ap (λ l. before ++ l) (sym (repeat_more n round));
      room = omega (
        arith,
        c.in_ok-push_round-in-Some.ensures.length,
        inv.room,
        inv.harts,
        add-mul n 1 c.len-harts.result,
        one-mul c.len-harts.result,
      );
    }

pub returns-in_default-clause-rule : goal.returns-in_default-clause-rule
returns-in_default-clause-rule c =
    let jobs = c.args.self.now.jobs in
    too_many_rounds (length (map hart_of jobs.items)) (length c.args.self.now.schedule.items) c.args.count
    c.len-harts.result (omega arith) (omega (arith, length-map jobs.items hart_of, jobs.ok.0, c.len-harts.ensures))
    (omega (
      arith,
      c.args.self.now.schedule.ok.0,
      c.turns_left.ensures,
      c.if-turns-turns_left.false,
      c.in-Some.ensures,
    ))

pub returns-in_default-2-clause-rule : goal.returns-in_default-2-clause-rule
returns-in_default-2-clause-rule c =
    let jobs = c.args.self.now.jobs in
    too_many_rounds (length (map hart_of jobs.items)) (length c.args.self.now.schedule.items) c.args.count
    c.len-harts.result (omega arith) (omega (arith, length-map jobs.items hart_of, jobs.ok.0, c.len-harts.ensures))
    (omega (arith, c.in_default.ensures))
