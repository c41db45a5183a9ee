-- The runs are compared, and differ.
use Rattle.std.proofs.Common.{◌∙◌}
use Rattle.elf_witnesses.proofs.Found.{calls_alike}
use Rattle.elf_witnesses.proofs.MoreSet.{met_same, sets_after}
use Rattle.elf_witnesses.proofs.Tries.{same_shown}
use Rattle.elf_witnesses.proofs.witnessing.witness_by.Goals as goal

pub calls_by-requires-clause-met : goal.calls_by-requires-clause-met
calls_by-requires-clause-met c =
    met_same c.args.program.now c.args.asked.now c.compare_by.new.asked c.in_ok-compared.ensures.asked c.requires.met

pub returns-clause-witness : goal.returns-clause-witness
returns-clause-witness c =
    let compared = c.in_ok-compared.ensures.compared in
    let calls = rw c.in_ok-compared.ensures.one at c.in_ok-calls.ensures.calls in
    let ones = c.in_ok-calls.ensures.secrets ∙ c.in_ok-compared.ensures.one in
    record {
      one = compared.one;
      other = compared.other;
      seen = compared.seen;
      seen' = compared.seen';
      runs = rw ones compared.runs;
      runs' = rw c.in_ok-compared.ensures.other compared.runs';
      differ = rw c.in-Differ.is at compared.compares;
      calls =
          calls_alike c.args.program.now c.args.options.profile (sets_after c.in_ok-compared.ensures.asked calls.1)
          compared.runs.sets calls.2;
    }

pub returns-clause-given : goal.returns-clause-given
returns-clause-given c =
    (c.in_ok-calls.ensures.secrets ∙ c.in_ok-compared.ensures.one, c.in_ok-compared.ensures.other)

pub returns-in_default-clause-same : goal.returns-in_default-clause-same
returns-in_default-clause-same c none =
    let compared = c.in_ok-compared.ensures.compared in
    record {
      one = compared.one;
      other = compared.other;
      seen = compared.seen;
      seen' = compared.seen';
      runs = compared.runs;
      runs' = compared.runs';
      same = same_shown compared.seen compared.seen' c.in_ok-compared.compared compared.compares c.in_default.not-Differ;
    }
