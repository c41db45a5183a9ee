use Rattle.std.proofs.Common.{◌∙◌, None, ap, ap₂, map}
use Rattle.std.specs.Option.{option_map}
use Rattle.labels.specs.Below.{declared_at, element_type, expr_tree, found, literal_in, name_type, of_two}
use Rattle.labels.specs.Below.{procedure_tree, right_tree, secret_in, secret_name, type_of, Typed, variable}
use Rattle.labels.specs.private.Made.{of_operands}
use Rattle.labels.proofs.TypedLemmas.{element_assignment_seen, value_of-element}
use Rattle.labels.proofs.assignments.element_assignment.Goals as goal

pub returns : goal.returns
returns c =
    let n = c.args.names.now in
    let it = c.args.assignment.now in
    let text = it.name in
    let index = expr_tree it.index in
    element_assignment_seen c.args.findings.now c.name-array.new.findings c.expression-index.new.findings
    c.element.new.findings c.right_side.new.findings c.note_element_assignment.new.findings
    (map procedure_tree c.args.earlier.now) n c.args.control it.place it.bracket it.target text index
    (right_tree it.value) c.name-array.result c.expression-index.result c.in_ok-given.given c.value_of-element.result
    c.place.result c.variable-variable.result
    (c.variable-variable.ensures ∙ ap (λ t. variable (found n t)) c.as_str-text.ensures)
    (c.place.ensures ∙ ap (declared_at n) c.as_str-text.ensures) c.name-array.ensures.typed c.expression-index.ensures.typed
    (c.value_of-element.ensures ∙ ap (option_map (λ (known : Typed). known.value)) (c.element.ensures.typed
    ∙ ap₂ (of_two None (of_operands element_type)) c.name-array.ensures.typed c.expression-index.ensures.typed)
    ∙ value_of-element (secret_name n text) (secret_in n index) None (literal_in index) (name_type n text)
    (type_of n index))
    c.in_ok-given.ensures.typed c.name-array.ensures.findings c.expression-index.ensures.findings c.element.ensures.findings
    c.in_ok-given.ensures.findings c.note_element_assignment.ensures
