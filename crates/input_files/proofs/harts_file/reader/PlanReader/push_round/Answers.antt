use Rattle.std.proofs.Common.{◌∷◌, [], ◌++◌, sym, ap, ◌∙◌, arith, append_assoc}
use Rattle.std.specs.List.{range_with_len}
use Rattle.input_files.proofs.harts_file_lemmas.RoundLemmas.{range_more}
use Rattle.input_files.proofs.harts_file.reader.PlanReader.push_round.Goals as goal

pub loop-hart-preserved : goal.loop-hart-preserved
loop-hart-preserved c =
    let i = c.loop-hart.hart in
    record {
      jobs = c.loop-hart.invariant.jobs;
      begun = c.loop-hart.invariant.begun;
      turns = c.in_ok-push.ensures.items ∙ ap (λ l. l ++ i ∷ []) c.loop-hart.invariant.turns
          ∙ append_assoc c.args.self.now.schedule.items (range_with_len 0 i) (i ∷ [])
          ∙ ap (λ l. c.args.self.now.schedule.items ++ l) (sym (range_more i));
      room = omega (arith, c.in_ok-push.ensures.len, c.loop-hart.invariant.room);
    }
