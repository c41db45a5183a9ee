use Rattle.std.proofs.Common.{◌≡◌, ◌-◌, ◌++◌, length}
use Rattle.codegen.specs.private.Homes.{all_weights_of}
use Rattle.codegen.specs.private.MirrorUses.{mirror_weights_from, uses_of}
use Rattle.codegen.specs.private.Uses.{word_weights_of}
use Rattle.codegen.proofs.homes.all_weights.Given as goal

-- the weights so far and those of the mirrors that are left are all weights
abbrev pub invariant-loop-variable : goal.invariant-loop-variable
invariant-loop-variable l =
    let p = l.straight in
    record {
      made : l.weights.items
          ++ mirror_weights_from (uses_of p) (word_weights_of p) l.variable (length p.declared - l.variable)
          ≡ all_weights_of p;
      words : l.words.items ≡ word_weights_of p;
    }
