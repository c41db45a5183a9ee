-- Procedures as they were measured, by their names, and the sizes that are counted by them.
use Rattle.std.specs.Prelude.{ℕ, ◌+◌, ◌||◌, ◌++◌, if◌then◌else◌, nat_lt, List, map}
use Rattle.std.specs.Option.{option_map}
use Rattle.inline.specs.declared.costs.SizeCosts.{SizeCosts}
use Rattle.inline.specs.declared.measured.Measured.{Measured}
use Rattle.inline.specs.declared.measured.FlatSize.{FlatSize}
use Rattle.inline.specs.Below.{because, excess, most_bodies, most_declared_bytes, most_nodes, Place, when}
use Rattle.inline.specs.Below.{block_bodies, block_nodes, block_words, BlockTree, bodies_of, bodies_of_called}
use Rattle.inline.specs.Below.{call_nodes, CallTree, counted, Extent, Extents, found, nodes_of, parameter_tree}
use Rattle.inline.specs.Below.{parameter_words, ProcedureTree, right_bodies, right_nodes, right_words, RightTree}
use Rattle.inline.specs.Below.{statement_bodies, statement_nodes, statement_words, StatementTree, words_of_called}
use Rattle.language.specs.declared.rule.Rule.TheVariants.{InlinedSize, DeclaredBytes}
use Rattle.language.specs.declared.typing.Violation.{Violation}
use Rattle.language.specs.declared.why.Counted.TheVariants as what
use Rattle.language.specs.declared.why.Why.TheVariants.{TooMuch}

abbrev pub counted_size : ℕ → ℕ → ℕ → FlatSize
counted_size nodes words bodies = record { nodes = counted nodes; words = counted words; bodies = counted bodies }

abbrev pub extent_of_measured : Measured → Extent
extent_of_measured m = record {
  parameters = map parameter_tree m.parameters.now;
  nodes = m.size.nodes;
  words = m.size.words;
  bodies = m.size.bodies;
}

-- what is known by a table of them
abbrev pub extents_in : List (List ℕ × Measured) → Extents
extents_in table text = option_map extent_of_measured (found table text)

-- the size that is counted of a call, of a right side, of a statement, of statements
abbrev pub call_size : Extents → CallTree → FlatSize
call_size known c = counted_size (call_nodes known c) (words_of_called (known c.name))
    (bodies_of_called (known c.name))

abbrev pub right_size : Extents → RightTree → FlatSize
right_size known r = counted_size (right_nodes known r) (right_words known r) (right_bodies known r)

abbrev pub statement_size : Extents → StatementTree → FlatSize
statement_size known s = counted_size (statement_nodes known s) (statement_words known s) (statement_bodies known s)

abbrev pub block_size : Extents → BlockTree → FlatSize
block_size known b = counted_size (block_nodes known b) (block_words known b) (block_bodies known b)

-- of a procedure whose parameters take so many words
abbrev pub procedure_size : Extents → ℕ → ProcedureTree → FlatSize
procedure_size known words p = counted_size (nodes_of known p) (words + block_words known p.body) (bodies_of known p)

-- of the export
abbrev pub export_size : Extents → ProcedureTree → FlatSize
export_size known p = procedure_size known (parameter_words p.parameters) p

-- the limits that are passed by such costs, at this place, with what there is too much of
abbrev pub passed_by : Place → SizeCosts → List Violation
passed_by place costs =
    because
    (TooMuch (if nat_lt most_nodes costs.nodes.whole then excess what.Nodes costs.nodes
    else excess what.Bodies costs.bodies))
    place (when (nat_lt most_nodes costs.nodes.whole || nat_lt most_bodies costs.bodies.whole) InlinedSize)
    ++ because (TooMuch (excess what.DeclaredBytes costs.declared_bytes)) place
    (when (nat_lt most_declared_bytes costs.declared_bytes.whole) DeclaredBytes)
