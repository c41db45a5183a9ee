use Rattle.std.proofs.Common.{◌≡◌, ◌-◌, ◌≤◌, ◌++◌, length}
use Rattle.codegen.specs.private.Homes.{all_weights_of, choice_left, homes_from, is_wanted}
use Rattle.codegen.proofs.homes.registers.Given as goal

-- the registers so far and those of what is left are all registers
abbrev pub invariant-loop-number : goal.invariant-loop-number
invariant-loop-number l =
    let p = l.fn.straight in
    let wanted = is_wanted l.fn.first p.declared (all_weights_of p) in
    record {
      made : l.registers.items ++ homes_from l.fn.first wanted l.number l.next (length (all_weights_of p) - l.number)
          ≡ homes_from l.fn.first wanted 0 l.fn.first (length (all_weights_of p));
      least : l.fn.first ≤ l.next;
      few : l.next ≤ 28;
      weights : l.weights.items ≡ all_weights_of p;
      left : l.left.items ≡ choice_left l.fn.first l.weights.items;
      declared : l.declared ≡ p.declared;
    }
