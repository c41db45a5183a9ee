use Rattle.rv_machine.proofs.ByteLaws.{number_at-with_number, number_at_apart, is_some-with_number}
use Rattle.rv_machine.proofs.laws.numbers_in_bytes.Goals as goal

pub returns : goal.returns
returns c = record {
  there = number_at-with_number;
  apart = number_at_apart;
  extent = is_some-with_number;
}
