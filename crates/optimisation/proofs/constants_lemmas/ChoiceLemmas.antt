-- Choosing: counts.
use Rattle.std.proofs.Common.{◌≡◌, ℕ, ◌+◌, Bool, arith}
use Rattle.optimisation.specs.Below.{StraightBlock}
use Rattle.optimisation.specs.constants.private.Choice.{Chosen}
use Rattle.optimisation.specs.declared.constants.choice.Counts.{Counts}
use Rattle.optimisation.specs.constants.private.Choice.{closed, counted, grown, is_worth, settled}
use Rattle.optimisation.specs.iteration_groups.private.Choice.{is_groupable}

-- a count of nodes serves as they do
pub grown_by : (so_far : Chosen) (count n : ℕ) → count ≡ counted n → grown so_far count ≡ grown so_far n
grown_by so_far count n is =
    let same : counted (so_far.counts.nodes + count) ≡ counted (so_far.counts.nodes + n) = omega arith in cc

-- so does the count of what a loop has beside its body
pub closed_by : (before : Counts) (x count own : ℕ) (body : StraightBlock) (groupable worth : Bool)
    (inner same : Chosen) → count ≡ counted own → inner ≡ same → groupable ≡ is_groupable inner.arrays x body
    → worth ≡ is_worth before.times x body inner
    → settled before x count groupable worth inner ≡ closed before x own body same
closed_by before x count own body groupable worth inner same is alike may saves =
    let nodes : counted (before.nodes + count + inner.counts.nodes)
    ≡ counted (before.nodes + own + inner.counts.nodes) = omega arith in cc
