use Rattle.rv_machine.proofs.Alone.{alone, shown_the_same}
use Rattle.rv_machine.proofs.laws.harts_are_as_alone.Goals as goal

pub returns : goal.returns
returns c = record {
  alone = alone;
  shown = shown_the_same;
}
