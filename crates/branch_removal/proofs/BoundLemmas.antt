-- Straight code keeps the bounds of the body that it is made for.
use Rattle.std.proofs.Common.{◌≡◌, ℕ, ◌+◌, ◌*◌, ◌≤◌, List, [], ◌∷◌, Option, None, Some, max, slice_index, arith}
use Rattle.std.proofs.Math.Nat.{max-le}
use Rattle.std.proofs.lemmas.Nat.{mul-le}
use Rattle.branch_removal.specs.Below.{array, assign, body_nodes, body_work, branch, declare, first, FlatBlock}
use Rattle.branch_removal.specs.Below.{FlatProgram, FlatTree, hold, IsSized, loop, most_nodes, most_work, nothing}
use Rattle.branch_removal.specs.Below.{Public, put, ranged, Secret, term_nodes, terms_nodes, TermTree, tree_nodes}
use Rattle.branch_removal.specs.Below.{tree_work, value_nodes}
use Rattle.inline.specs.Flat as flat
use Rattle.branch_removal.specs.Bounds.{statement_nodes, block_nodes, block_work, iterations_counted}
use Rattle.branch_removal.specs.Bounds.{IsBounded, IsCounted}
use Rattle.branch_removal.specs.Heights.{height_of, height_of_all, height_in, height_in_all, depth_in, depth_in_all}
use Rattle.branch_removal.specs.Heights.{result_height}
use Rattle.branch_removal.specs.private.Removal.{removed, removed_all, controls_in, controls_in_all}
use Rattle.branch_removal.specs.private.Removal.{straightened}
use Rattle.branch_removal.specs.Straight.{StraightTree, StraightBlock, chain}
use Rattle.branch_removal.specs.Straight as straight

-- Code of two parts.

nodes-chain : (these those : StraightBlock) → block_nodes (chain these those) ≡ block_nodes these + block_nodes those
nodes-chain straight.nothing those = omega arith
nodes-chain (straight.first statement these) those = omega (arith, nodes-chain these those)

work-chain : (most : List ℕ) (these those : StraightBlock)
    → block_work most (chain these those) ≡ block_work most these + block_work most those
work-chain most straight.nothing those = omega arith
work-chain most (straight.first statement these) those = omega (arith, work-chain most these those)

abbrev mutual
  -- how many conditions are taken in a statement
  taken_in : StraightTree → ℕ
  taken_in (straight.take control within condition) = 1
  taken_in (straight.branch condition accepted otherwise) = taken_in_all accepted + taken_in_all otherwise
  taken_in (straight.repeats x low high body) = taken_in_all body
  taken_in s = 0

  taken_in_all : StraightBlock → ℕ
  taken_in_all straight.nothing = 0
  taken_in_all (straight.first statement rest) = taken_in statement + taken_in_all rest

taken-chain : (these those : StraightBlock)
    → taken_in_all (chain these those) ≡ taken_in_all these + taken_in_all those
taken-chain straight.nothing those = omega arith
taken-chain (straight.first statement these) those = omega (arith, taken-chain these those)

-- What is removed adds nothing.

-- no more iterations are counted for a loop than for its counter
few_iterations : (most : List ℕ) (x : ℕ) (low high : TermTree)
    → iterations_counted most x low high ≤ slice_index most x
few_iterations most x (flat.number low kind) (flat.number high other) = omega arith
few_iterations most x low high = omega arith

-- what two parts take at most
most_of_two : (a b m n : ℕ) → a ≤ 2 * m → b ≤ 2 * n → max a b ≤ 2 * (m + n)
most_of_two a b m n p q = max-le (omega (arith, p)) (omega (arith, q))

-- straight code has no more nodes and no more work than what it is made for, and takes the conditions that its control
-- values are for
record IsNoLarger (most : List ℕ) (nodes work controls : ℕ) (code : StraightBlock) : Type 0 where
  few_nodes : block_nodes code ≤ nodes
  few_work : block_work most code ≤ work
  taken : controls ≤ 2 * taken_in_all code

module _ (most : List ℕ) where
  -- of two parts one behind the other, of which the control values may be the same
  fits_chain : {n w c m v d : ℕ} (xs ys : StraightBlock) → IsNoLarger most n w c xs → IsNoLarger most m v d ys
      → IsNoLarger most (n + m) (w + v) (max c d) (chain xs ys)
  fits_chain {c = c} {d = d} xs ys one other =
      let few = one.few_nodes in
      let more = other.few_nodes in
      let some = one.few_work in
      let others = other.few_work in
      let both = most_of_two c d (taken_in_all xs) (taken_in_all ys) one.taken other.taken in
      record {
        few_nodes = omega (arith, nodes-chain xs ys, few, more);
        few_work = omega (arith, work-chain most xs ys, some, others);
        taken = omega (arith, taken-chain xs ys, both);
      }

  mutual
    fits : (within : Option ℕ) (control : ℕ) (s : FlatTree)
        → IsNoLarger most (tree_nodes s) (tree_work most s) (controls_in s) (removed within control s)
    fits within control (declare x word mutable value) =
        record { few_nodes = omega arith; few_work = omega arith; taken = omega arith }
    fits within control (assign x value) =
        record { few_nodes = omega arith; few_work = omega arith; taken = omega arith }
    fits within control (hold x place size index) =
        record { few_nodes = omega arith; few_work = omega arith; taken = omega arith }
    fits within control (branch Secret condition accepted otherwise) =
        let arms = fits_chain (removed_all (Some control) (control + 2) accepted)
        (removed_all (Some (control + 1)) (control + 2) otherwise)
        (fits_all (Some control) (control + 2) accepted) (fits_all (Some (control + 1)) (control + 2) otherwise) in
        let few = arms.few_nodes in
        let some = arms.few_work in
        let taken = arms.taken in
        record { few_nodes = omega (arith, few); few_work = omega (arith, some); taken = omega (arith, taken) }
    fits within control (branch Public condition accepted otherwise) =
        let xs = removed_all within control accepted in
        let ys = removed_all within control otherwise in
        let arms = fits_chain xs ys (fits_all within control accepted) (fits_all within control otherwise) in
        let few = arms.few_nodes in
        let some = arms.few_work in
        let taken = arms.taken in
        record {
          few_nodes = omega (arith, nodes-chain xs ys, few);
          few_work = omega (arith, work-chain most xs ys, some);
          taken = omega (arith, taken-chain xs ys, taken);
        }
    fits within control (loop x low high body) =
        let inner = fits_all within control body in
        let few = inner.few_nodes in
        let some = inner.few_work in
        let iterations : (iterations_counted most x low high + 1)
        * (1 + block_work most (removed_all within control body))
        ≤ (slice_index most x + 1) * (1 + body_work most body) =
        mul-le (iterations_counted most x low high + 1) (1 + block_work most (removed_all within control body))
        (slice_index most x + 1) (1 + body_work most body) (omega (arith, few_iterations most x low high))
        (omega (arith, some)) in
        let taken = inner.taken in
        record { few_nodes = omega (arith, few); few_work = omega (arith, iterations); taken = omega (arith, taken) }
    fits within control other = record { few_nodes = omega arith; few_work = omega arith; taken = omega arith }

    fits_all : (within : Option ℕ) (control : ℕ) (b : FlatBlock)
        → IsNoLarger most (body_nodes b) (body_work most b) (controls_in_all b) (removed_all within control b)
    fits_all within control nothing = record { few_nodes = omega arith; few_work = omega arith; taken = omega arith }
    fits_all within control (first s rest) = fits_chain (removed within control s) (removed_all within control rest)
        (fits within control s) (fits_all within control rest)

-- Room.

height : (e : TermTree) → height_of e + 1 ≤ term_nodes e
height (flat.prefix operator width operand) = omega (arith, height operand)
height (flat.binary place operator width one other) = omega (arith, height one, height other)
height (flat.rotate width operand amount) = omega (arith, height operand)
height (flat.convert kind operand) = omega (arith, height operand)
height (flat.select condition accepted otherwise) =
    omega (arith, height condition, height accepted, height otherwise)
height (flat.element place x size index) = omega (arith, height index)
height e = omega arith

heights : (es : List TermTree) → height_of_all es ≤ terms_nodes es
heights [] = omega arith
heights (e ∷ es) = omega (arith, height e, heights es)

mutual
  -- a statement's temporaries, its loops' words and its control values
  statement_room : (s : StraightTree) → height_in s + 2 * depth_in s + 2 * taken_in s ≤ statement_nodes s
  statement_room (straight.set within x value) = omega (arith, height value)
  statement_room (straight.array x size values) = omega (arith, heights values)
  statement_room (straight.put within place x size index value) = omega (arith, height index, height value)
  statement_room (straight.take control within condition) = omega (arith, height condition)
  statement_room (straight.branch condition accepted otherwise) =
      omega (arith, height condition, block_room accepted, block_room otherwise)
  statement_room (straight.repeats x low high body) = omega (arith, height low, height high, block_room body)

  block_room : (b : StraightBlock) → height_in_all b + 2 * depth_in_all b + 2 * taken_in_all b ≤ block_nodes b
  block_room straight.nothing = omega arith
  block_room (straight.first s rest) = omega (arith, statement_room s, block_room rest)

result_room : (value : Option TermTree) → result_height value ≤ value_nodes value
result_room None = omega arith
result_room (Some value) = omega (arith, height value)

-- there are no more control values than nodes
pub few_controls : (p : FlatProgram) → IsSized p → controls_in_all p.body ≤ most_nodes
few_controls p sized =
    let body = fits_all [] None 0 p.body in
    let taken = body.taken in
    let few = body.few_nodes in
    omega (arith, taken, few, block_room (removed_all None 0 p.body), sized.counted, sized.nodes)

-- the code has no more nodes than the source
pub counted : (p : FlatProgram) → IsSized p → IsCounted (straightened (ranged p))
counted p sized = let few = (fits_all [] None 0 p.body).few_nodes in omega (arith, few, sized.counted)

pub bounded : (p : FlatProgram) → IsSized p → (ranged p).work ≤ most_work → IsBounded (straightened (ranged p))
bounded p sized fits =
    let body = fits_all (ranged p).iterations None 0 p.body in
    let work = body.few_work in
    let taken = body.taken in
    record {
      lengths = sized.lengths;
      parameters = sized.parameters;
      declared = sized.declared;
      nodes = sized.nodes;
      worked = omega (arith, work);
      work_fits = fits;
      framed = omega (arith, taken, block_room (removed_all None 0 p.body), result_room p.value, counted p sized);
    }
