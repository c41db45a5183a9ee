-- Which loops become their iterations: innermost loops first, in the order of the text, each whose iterations are short
-- and for which there is still room. All iterations together have room for 32 times as many nodes as the source has, up
-- to a limit that keeps the building of large sources short. Counted are about the nodes that an iteration will have.
-- The iterations of a loop that makes only few may be far longer: they take little more room than the loop did, and
-- what hangs on the counter is known in each of them. A loop of many that may be grouped stays, and so do the loops
-- around it: groups are short, and each iteration around them would have them once more.
use Rattle.std.specs.Prelude.{ℕ, ◌+◌, ◌-◌, ◌*◌, ◌/◌, ◌&&◌, ◌||◌, Bool, true, false, not, List, [], length, min}
use Rattle.std.specs.Prelude.{nat_le, nat_lt, if◌then◌else◌, slice_index, slice_set}
use Rattle.optimisation.specs.Below.{array, branch, first, nothing, put, repeats, set, StraightBlock, StraightProgram}
use Rattle.optimisation.specs.Below.{StraightTree, take}
use Rattle.optimisation.specs.declared.constants.choice.Choice.{Choice}
use Rattle.optimisation.specs.constants.private.Costs.{cost_by_all}
use Rattle.optimisation.specs.declared.constants.choice.Counts.{Counts}
use Rattle.optimisation.specs.declared.constants.choice.Totals.{Totals}
use Rattle.straight_words.specs.element_words.private.Parts.{candidates, Parts}
use Rattle.optimisation.specs.iteration_groups.private.Choice.{is_groupable, least_iterations}
pub use Rattle.optimisation.specs.private.Nodes.{counted, term_size, terms_size}

-- how many nodes an iteration may have, by how many iterations there are
abbrev pub most_nodes_of : ℕ → ℕ
most_nodes_of iterations = if nat_le iterations 3 then 4096 else 384

-- about how many words of code a program is, and how many steps it takes
abbrev pub totals_of : Parts → List ℕ → StraightBlock → Totals
totals_of arrays iterations body = record {
  words = counted (cost_by_all arrays [] false body);
  steps = counted (cost_by_all arrays iterations false body);
}

-- how many words the iterations of a loop add, and how many steps they save, by what its body takes in it and in them
abbrev pub instead : ℕ → ℕ → ℕ → Totals
instead iterations as_loop as_code = record {
  words = counted (as_code * iterations) - as_loop;
  steps = counted ((counted (as_loop + 3) - as_code) * iterations);
}

-- what is chosen so far: how many iterations the loop of each counter may become, at its number; how many nodes there
-- are, with the iterations of the loops that are chosen, for how many more there is room, and whether a loop is among
-- them that stays to be grouped; and which arrays might become words
pub record Chosen : Type 0 where
  pub unroll_limits : List ℕ
  pub counts : Counts
  pub arrays : Parts
  -- what the program was before
  pub totals : Totals

abbrev pub choice_of : Choice → Chosen
choice_of choice = record {
  unroll_limits = choice.unroll_limits.items;
  counts = choice.counts;
  arrays = choice.arrays.arrays.items;
  totals = choice.totals;
}

abbrev pub with_counts : Chosen → Counts → Chosen
with_counts so_far counts = record {
  unroll_limits = so_far.unroll_limits;
  counts = counts;
  arrays = so_far.arrays;
  totals = so_far.totals;
}

abbrev pub with_more : Counts → ℕ → Counts
with_more counts n = record {
  room = counts.room;
  nodes = counted (counts.nodes + n);
  keeps = counts.keeps;
  times = counts.times;
}

abbrev pub grown : Chosen → ℕ → Chosen
grown so_far n = with_counts so_far (with_more so_far.counts n)

-- how many nodes all iterations of a loop have that is better off without a counter, though it may be grouped
abbrev pub short_loop : ℕ
short_loop = 128

-- a loop that may be grouped stays where it makes many iterations, and these would not be short together
abbrev pub is_kept : Bool → ℕ → ℕ → Bool
is_kept groupable iterations cost = groupable && nat_le least_iterations iterations && nat_lt short_loop cost

-- a loop that is run so many times, for whose body all is chosen, is worth its iterations: the steps that they save are
-- at least a tenth as great a share of all as the words that they add
abbrev pub is_saving : ℕ → Totals → Totals → Bool
is_saving times all change =
    nat_le (counted (change.words * all.steps)) (counted (counted (counted (change.steps * times) * all.words) * 10))

abbrev pub is_worth : ℕ → ℕ → StraightBlock → Chosen → Bool
is_worth times x body inner =
    is_saving times inner.totals (instead (slice_index inner.unroll_limits x)
    (counted (cost_by_all inner.arrays inner.unroll_limits false body))
    (counted (cost_by_all inner.arrays inner.unroll_limits true body)))

-- behind so many nodes, where there was so much room, a loop of so many nodes without its body, for which all is
-- chosen: its iterations, each a counter that is set and the body, where they are worth it, each is short, there is
-- room for all of them, and neither it nor a loop in it stays to be grouped; or else the loop
abbrev pub settled : Counts → ℕ → ℕ → Bool → Bool → Chosen → Chosen
settled before x own groupable worth inner =
    let iterations = slice_index inner.unroll_limits x in
    let cost = counted (counted (inner.counts.nodes + 2) * iterations) in
    let keeps = inner.counts.keeps || is_kept groupable iterations cost in
    if (nat_le 1 iterations && worth && not keeps)
    && nat_le inner.counts.nodes (most_nodes_of iterations) && nat_le cost before.room
    then with_counts inner (record {
      room = before.room - cost;
      nodes = counted (before.nodes + cost);
      keeps = before.keeps;
      times = before.times;
    })
    else record {
      unroll_limits = slice_set inner.unroll_limits x 0;
      counts = record {
        room = inner.counts.room;
        nodes = counted (before.nodes + own + inner.counts.nodes);
        keeps = before.keeps || keeps;
        times = before.times;
      };
      arrays = inner.arrays;
      totals = inner.totals;
    }

-- where the body of the loop of a counter begins
abbrev pub opened : ℕ → Chosen → Chosen
opened x so_far = with_counts so_far (record {
  room = so_far.counts.room;
  nodes = 0;
  keeps = false;
  times = counted (so_far.counts.times * slice_index so_far.unroll_limits x);
})

abbrev pub closed : Counts → ℕ → ℕ → StraightBlock → Chosen → Chosen
closed before x own body inner =
    settled before x own (is_groupable inner.arrays x body) (is_worth before.times x body inner) inner

abbrev mutual
  -- with the loops in a statement
  pub chosen : Chosen → StraightTree → Chosen
  chosen so_far (set within x value) = grown so_far (1 + term_size value)
  chosen so_far (array x size values) = grown so_far (1 + terms_size values)
  chosen so_far (put within place x size index value) =
      grown so_far (1 + counted (term_size index) / 4 + term_size value)
  chosen so_far (take control within condition) = grown so_far (1 + term_size condition)
  chosen so_far (branch condition accepted otherwise) =
      chosen_all (chosen_all (grown so_far (1 + term_size condition)) accepted) otherwise
  chosen so_far (repeats x low high body) =
      closed so_far.counts x (1 + term_size low + term_size high) body (chosen_all (opened x so_far) body)

  -- with those in statements, one after the other
  pub chosen_all : Chosen → StraightBlock → Chosen
  chosen_all so_far nothing = so_far
  chosen_all so_far (first statement rest) = chosen_all (chosen so_far statement) rest

-- the room of a source of so many nodes
abbrev pub room_for : ℕ → ℕ
room_for nodes = min (32 * nodes) 48000

-- where nothing is chosen yet, all iterations that are counted are allowed
abbrev pub begun : StraightProgram → Chosen
begun p =
    let arrays = candidates (length p.parameters) p.declared in
    record {
      unroll_limits = p.iterations;
      counts = record { room = room_for p.nodes; nodes = 0; keeps = false; times = 1 };
      arrays = arrays;
      totals = totals_of arrays p.iterations p.body;
    }

-- how many iterations the loop of each counter may become
abbrev pub unroll_limits_of : StraightProgram → List ℕ
unroll_limits_of p = (chosen_all (begun p) p.body).unroll_limits
