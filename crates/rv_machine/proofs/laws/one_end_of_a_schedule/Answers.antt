use Rattle.rv_machine.proofs.SystemLaws.{Follows-determined, every_schedule_has_an_end}
use Rattle.rv_machine.proofs.laws.one_end_of_a_schedule.Goals as goal

pub returns : goal.returns
returns c = record {
  one = λ schedule s t u a b. Follows-determined;
  end = every_schedule_has_an_end;
}
