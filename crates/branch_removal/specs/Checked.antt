-- Whether straight code may be made of other parts: a test of its types, of the words that its variables take, of its
-- work, and of the room that it asks of a frame. What passes it is straight. How it tests types is private.
use Rattle.std.specs.Prelude.{◌+◌, ◌*◌, ◌&&◌, Bool, if◌then◌else◌, List, map, nat_le, Option, None, Some}
use Rattle.std.specs.Prelude.{unwrap_or}
use Rattle.branch_removal.specs.Below.{declaration_of, declared_words, most_variable_bytes, value_nodes}
use Rattle.branch_removal.specs.Bounds.{block_work}
use Rattle.branch_removal.specs.Heights.{depth_in_all, program_height}
use Rattle.branch_removal.specs.Straight.{StraightProgram, with_variables}
use Rattle.inline.specs.declared.flat.FlatVariable.{FlatVariable}
use Rattle.branch_removal.specs.private.Checks.{are_typed, come_first, is_result, types_beside}

-- within the limits on size
abbrev pub has_room : StraightProgram → Bool
has_room p =
    nat_le (4 * declared_words p.declared) most_variable_bytes
    && nat_le (block_work p.iterations p.body + value_nodes p.value) p.work
    && nat_le (p.controls + 2 * depth_in_all p.body + program_height p) p.nodes

-- well typed, and within the limits on size
abbrev pub is_checked : StraightProgram → Bool
is_checked p =
    come_first (map declaration_of p.parameters) p.declared
    && are_typed p.profile p.declared p.controls p.body
    && is_result (types_beside p.profile p.declared None) p.returned p.value && has_room p

-- a program, where it passes
unfoldable pub checked : StraightProgram → Option StraightProgram
checked p = if is_checked p then Some p else None

-- a program with other variables, where that passes, and else as it is
unfoldable pub redeclared : StraightProgram → List FlatVariable → StraightProgram
redeclared p declared = unwrap_or (checked (with_variables p declared p.body p.value)) p
