-- Blocks of flat statements, one behind another.
use Rattle.std.proofs.Common.{◌≡◌, ◌+◌, List, [], ◌∷◌, ◌++◌, length, Result, Ok, Err, refl, ap, arith}
use Rattle.std.specs.Result.{OnOk}
use Rattle.inline.specs.declared.flat.FlatStatement.{FlatStatement}
use Rattle.inline.specs.Flat.{FlatBlock, nothing, first, chain, flat_block, flat_tree, length_of}
use Rattle.inline.specs.Numbering.{single}

pub chain_nothing : (b : FlatBlock) → chain b nothing ≡ b
chain_nothing nothing = refl
chain_nothing (first s rest) = ap (first s) (chain_nothing rest)

pub chain_chain : (a b c : FlatBlock) → chain (chain a b) c ≡ chain a (chain b c)
chain_chain nothing b c = refl
chain_chain (first s rest) b c = ap (first s) (chain_chain rest b c)

-- a statement behind a list of them
pub pushed : (done : List FlatStatement) (one : FlatStatement)
    → flat_block (done ++ one ∷ []) ≡ chain (flat_block done) (single (flat_tree one))
pushed [] one = refl
pushed (d ∷ done) one = ap (first (flat_tree d)) (pushed done one)

-- How many statements there are.

length_chain : (a b : FlatBlock) → length_of (chain a b) ≡ length_of a + length_of b
length_chain nothing b = omega arith
length_chain (first s rest) b = omega (arith, length_chain rest b)

length_block : (list : List FlatStatement) → length_of (flat_block list) ≡ length list
length_block [] = refl
length_block (s ∷ rest) = omega (arith, length_block rest)

-- a list behind which a block was put
pub grown : (old new : List FlatStatement) (b : FlatBlock) → flat_block new ≡ chain (flat_block old) b
    → length new ≡ length old + length_of b
grown old new b is =
    omega (arith, length_block new, length_block old, ap length_of is, length_chain (flat_block old) b)

-- A clause that holds where the last step of a function does well.

pub ok_any : {A E P : Type 0} (r : Result A E) → P → OnOk r P
ok_any (Ok a) p = p
ok_any (Err e) p = tt
