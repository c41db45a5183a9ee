use Rattle.rv_machine.proofs.Halting.{keeps_inside, shown_alone, stopped_alone}
use Rattle.rv_machine.proofs.laws.harts_halt.Goals as goal

pub returns : goal.returns
returns c = record {
  inside = keeps_inside;
  shown = shown_alone;
  stopped = stopped_alone;
}
