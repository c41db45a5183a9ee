-- How large statements are where calls are bodies: what the recursion of the numbering goes down by.
use Rattle.std.proofs.Common.{◌≡◌, ◌<◌, ◌≤◌, ℕ, ◌+◌, ◌*◌, List, [], ◌∷◌, Some, Vec, Global, map, arith, sym, ap, ◌∙◌}
use Rattle.std.specs.Option.{option_map}
use Rattle.inline.proofs.Below.{known_by_name, made}
use Rattle.inline.proofs.NumberingLemmas.{conditional_whole, loop_whole}
use Rattle.inline.specs.Below.{block_nodes, block_tree, call_nodes, CallTree, Counter, Expr, expr_tree, extent_of}
use Rattle.inline.specs.Below.{Extents, extents_of, For, If, named, nodes_in, Place, Procedure, procedure_tree}
use Rattle.inline.specs.Below.{right_nodes, RightTree, Statement, statement_nodes, statement_tree, StatementTree}

abbrev pub extents_by : List Procedure → Extents
extents_by earlier = extents_of (map procedure_tree earlier)

abbrev pub nodes_of_block : List Procedure → List Statement → ℕ
nodes_of_block earlier b = block_nodes (extents_by earlier) (block_tree b)

abbrev pub nodes_of_statement : List Procedure → StatementTree → ℕ
nodes_of_statement earlier s = statement_nodes (extents_by earlier) s

abbrev pub nodes_of_call : List Procedure → CallTree → ℕ
nodes_of_call earlier c = call_nodes (extents_by earlier) c

abbrev pub nodes_of_right : List Procedure → RightTree → ℕ
nodes_of_right earlier r = right_nodes (extents_by earlier) r

-- a called body has fewer nodes than its call
pub body_smaller : (earlier before : List Procedure) (callee : Procedure) (c : CallTree) (body : List Statement)
    → Some (map procedure_tree before, procedure_tree callee) ≡ named [] (map procedure_tree earlier) c.name
    → body ≡ callee.body.items → 8 * nodes_of_block before body + 8 < 8 * nodes_of_call earlier c + 1
body_smaller earlier before callee c body is list =
    let p = procedure_tree callee in
    let known : extents_by earlier c.name ≡ Some (extent_of (extents_by before) p) =
    known_by_name extent_of (map procedure_tree earlier) c.name ∙ ap (option_map (made extent_of)) (sym is) in
    rw (known, list) (omega arith)

-- the parts of a conditional and of a loop
pub conditional_smaller : (earlier : List Procedure) (place : Place) (condition : Expr)
    (accepted otherwise : Vec Statement Global) {s : Statement} {ones others : List Statement}
    → s ≡ If place condition accepted otherwise → ones ≡ accepted.items → others ≡ otherwise.items →
    8 * (1 + nodes_in (expr_tree condition) + nodes_of_block earlier ones + nodes_of_block earlier others) + 5
    < 8 * nodes_of_statement earlier (statement_tree s) + 6
conditional_smaller earlier place condition accepted otherwise is first_arm second_arm =
    rw (conditional_whole place condition accepted otherwise is first_arm second_arm) (omega arith)

pub loop_smaller : (earlier : List Procedure) (place : Place) (counter : Counter) (low high : Expr)
    (body : Vec Statement Global) {s : Statement} {ones : List Statement}
    → s ≡ For place counter low high body → ones ≡ body.items →
    8 * (1 + nodes_in (expr_tree low) + nodes_in (expr_tree high) + nodes_of_block earlier ones) + 5
    < 8 * nodes_of_statement earlier (statement_tree s) + 6
loop_smaller earlier place counter low high body is list =
    rw (loop_whole place counter low high body is list) (omega arith)

-- what is left behind a statement of a block
pub rest_smaller : (earlier : List Procedure) (block : List Statement) {left rest : List Statement} {s : Statement}
    → left ≡ s ∷ rest → nodes_of_block earlier left ≤ nodes_of_block earlier block
    → nodes_of_block earlier rest ≤ nodes_of_block earlier block
rest_smaller earlier block here smaller = omega (arith, ap (nodes_of_block earlier) here)
