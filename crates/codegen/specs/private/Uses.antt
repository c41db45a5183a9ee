-- How much each word of a program is used: variables, and in the same way control values, over the places in which they
-- are read.
use Rattle.std.specs.Prelude.{ℕ, List, ◌++◌, Option, None, Some, replicate}
use Rattle.codegen.specs.Below.{array, branch, first, nothing, put, repeats, set, StraightBlock, StraightProgram}
use Rattle.codegen.specs.Below.{StraightTree, take, used, weight_inside, weights_of}

abbrev pub used_within : ℕ → Option ℕ → List ℕ → List ℕ
used_within weight None weights = weights
used_within weight (Some control) weights = used weight control weights

abbrev mutual
  -- the weights of control values with those that a statement reads
  pub controls_read_by : ℕ → StraightTree → List ℕ → List ℕ
  controls_read_by weight (set within x value) weights = used_within weight within weights
  controls_read_by weight (array x size values) weights = weights
  controls_read_by weight (put within place x size index value) weights = used_within weight within weights
  controls_read_by weight (take control within condition) weights = used_within weight within weights
  controls_read_by weight (branch condition accepted otherwise) weights =
      controls_read_by_all weight otherwise (controls_read_by_all weight accepted weights)
  controls_read_by weight (repeats x low high body) weights =
      controls_read_by_all (weight_inside weight) body weights

  pub controls_read_by_all : ℕ → StraightBlock → List ℕ → List ℕ
  controls_read_by_all weight nothing weights = weights
  controls_read_by_all weight (first statement rest) weights =
      controls_read_by_all weight rest (controls_read_by weight statement weights)

-- the weights of a program's control values, by their numbers
abbrev pub control_weights_of : StraightProgram → List ℕ
control_weights_of p = controls_read_by_all 1 p.body (replicate p.controls 0)

-- and those of all words: the variables, and behind them the control values
abbrev pub word_weights_of : StraightProgram → List ℕ
word_weights_of p = weights_of p ++ control_weights_of p
