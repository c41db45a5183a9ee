-- What the parts of a procedure have together is what it has.
use Rattle.std.proofs.Common.{◌≡◌, ◌+◌, ◌*◌, List, [], ◌∷◌, ◌++◌, map, max, Option, None, Some, refl, ap, arith}
use Rattle.language.specs.declared.why.Share.{Share}
use Rattle.language.specs.Shares.{greatest_of, statement_shares, sum_of}
use Rattle.language.specs.Size.{Extents, bodies_of, block_bodies, block_nodes, block_words, body_shares, byte_shares}
use Rattle.language.specs.Size.{declared_bytes, node_shares, nodes_of, parameter_share, parameter_words, return_nodes}
use Rattle.language.specs.Size.{return_shares, statement_bodies, statement_bytes, statement_nodes}
use Rattle.language.specs.Tree.{BlockTree, nothing, first, ParameterTree, ProcedureTree, ReturnTree}

pub sum_append : (ps qs : List Share) → sum_of (ps ++ qs) ≡ sum_of ps + sum_of qs
sum_append [] qs = omega arith
sum_append (p ∷ ps) qs = omega (arith, sum_append ps qs)

nodes_together : (extents : Extents) (b : BlockTree)
    → sum_of (statement_shares (statement_nodes extents) b) ≡ block_nodes extents b
nodes_together extents nothing = refl
nodes_together extents (first s b) = ap (λ n. statement_nodes extents s + n) (nodes_together extents b)

words_together : (extents : Extents) (b : BlockTree)
    → sum_of (statement_shares (statement_bytes extents) b) ≡ 4 * block_words extents b
words_together extents nothing = refl
words_together extents (first s b) = omega (arith, words_together extents b)

bodies_together : (extents : Extents) (b : BlockTree)
    → greatest_of (statement_shares (statement_bodies extents) b) ≡ block_bodies extents b
bodies_together extents nothing = refl
bodies_together extents (first s b) = ap (max (statement_bodies extents s)) (bodies_together extents b)

parameters_together : (ps : List ParameterTree) → sum_of (map parameter_share ps) ≡ 4 * parameter_words ps
parameters_together [] = refl
parameters_together (p ∷ ps) = omega (arith, parameters_together ps)

pub return_together : (r : Option ReturnTree) → sum_of (return_shares r) ≡ return_nodes r
return_together None = refl
return_together (Some r) = omega arith

pub nodes_whole : (extents : Extents) (p : ProcedureTree) → sum_of (node_shares extents p) ≡ nodes_of extents p
nodes_whole extents p = simp (sum_append, nodes_together extents p.body, return_together)

pub bodies_whole : (extents : Extents) (p : ProcedureTree)
    → 1 + greatest_of (body_shares extents p) ≡ bodies_of extents p
bodies_whole extents p = ap (λ n. 1 + n) (bodies_together extents p.body)

pub bytes_whole : (extents : Extents) (p : ProcedureTree)
    → sum_of (byte_shares extents p) ≡ declared_bytes extents p
bytes_whole extents p =
    simp sum_append (omega (arith, parameters_together p.parameters, words_together extents p.body))
