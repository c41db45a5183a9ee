-- Procedures that were measured.
use Rattle.std.proofs.Common.{◌≡◌, ℕ, List, refl, ◌∙◌, arith}
use Rattle.inline.proofs.CountLemmas.{block_alike}
use Rattle.inline.specs.declared.measured.Measured.{Measured}
use Rattle.inline.specs.declared.measured.FlatSize.{FlatSize}
use Rattle.inline.specs.Counts.{AreCountsOf, counted_extent}
use Rattle.inline.specs.Measured.{extent_of_measured, extents_in, procedure_size}
use Rattle.inline.specs.Below.{counted, extent_of, Extents, passed_words, Procedure, procedure_tree, ProcedureTree}

-- what is counted by counts, with so many words of parameters, is what is counted by what they count
pub procedure_alike : (counts extents : Extents) (p : ProcedureTree) {size : FlatSize} {words : ℕ} (w : ℕ)
    → AreCountsOf counts extents → words ≡ counted w →
    size ≡ procedure_size counts words p → size ≡ procedure_size extents w p
procedure_alike counts extents p {words = words} w same taken is =
    let k = block_alike counts extents same p.body in
    let n : (procedure_size counts words p).nodes ≡ (procedure_size extents w p).nodes = omega arith in
    let d : (procedure_size counts words p).words ≡ (procedure_size extents w p).words = omega arith in
    let b : (procedure_size counts words p).bodies ≡ (procedure_size extents w p).bodies = omega arith in
    is ∙ (λ i. record { nodes = n i; words = d i; bodies = b i })

-- what is told of a procedure that was measured by a table is what is counted of it
pub measured_alike : (known : Extents) (table : List (List ℕ × Measured)) (p : Procedure) (m : Measured) (words : ℕ)
    → AreCountsOf (extents_in table) known → m.parameters.now ≡ p.parameters.items
    → words ≡ counted (passed_words (procedure_tree p).parameters)
    → m.size ≡ procedure_size (extents_in table) words (procedure_tree p)
    → extent_of_measured m ≡ counted_extent (extent_of known (procedure_tree p))
measured_alike known table p m words same own taken measured =
    let tree = procedure_tree p in
    let size = procedure_alike (extents_in table) known tree (passed_words tree.parameters) same taken measured in
    rw (own, size) refl
