use Rattle.std.proofs.Common.{◌∙◌, None, ap, ap₂, fold, sym}
use Rattle.std.proofs.lemmas.List.Sums.{fold-append}
use Rattle.labels.specs.Below.{binary_type, convert_type, element_type, expr_tree, expr_violations, literal_in}
use Rattle.labels.specs.Below.{name_type, of_one, of_three, of_two, prefix_type, rotate_type, secret_in, secret_name}
use Rattle.labels.specs.Below.{select_type, noted, type_of, typed_of}
use Rattle.labels.specs.private.Made.{of_operand, of_operands, of_choice}
use Rattle.labels.proofs.TypedLemmas.{element_seen, of_one-typed, of_two-typed, of_three-typed}
use Rattle.labels.proofs.expressions.+expression.Goals as goal

pub returns-in-Name-clause-typed : goal.returns-in-Name-clause-typed
returns-in-Name-clause-typed t c =
    c.name.ensures.typed ∙ ap (λ e. typed_of c.args.names.now (expr_tree e)) (sym c.in-Name.is)

pub returns-in-Prefix-clause-typed : goal.returns-in-Prefix-clause-typed
returns-in-Prefix-clause-typed t c =
    let n = c.args.names.now in
    let a = expr_tree c.in-Prefix.operand.value in
    let type = prefix_type c.in-Prefix.operator in
    c.prefix.ensures.typed
    ∙ ap (of_one None (of_operand type)) (c.expression-operand.ensures.typed
    ∙ ap (λ e. typed_of n (expr_tree e)) c.deref.ensures)
    ∙ of_one-typed (secret_in n a) (literal_in a) type (type_of n a)
    ∙ ap (λ e. typed_of n (expr_tree e)) (sym c.in-Prefix.is)

pub returns-in-Binary-clause-typed : goal.returns-in-Binary-clause-typed
returns-in-Binary-clause-typed t c =
    let n = c.args.names.now in
    let a = expr_tree c.in-Binary.left.value in
    let b = expr_tree c.in-Binary.right.value in
    let type = binary_type n.profile c.in-Binary.operator in
    c.binary.ensures.typed
    ∙ ap (λ p. of_two None (of_operands (binary_type p c.in-Binary.operator)) c.expression-left.result
    c.expression-right.result) c.profile.ensures
    ∙ ap₂ (of_two None (of_operands type))
    (c.expression-left.ensures.typed ∙ ap (λ e. typed_of n (expr_tree e)) c.deref-in-Binary.ensures)
    (c.expression-right.ensures.typed ∙ ap (λ e. typed_of n (expr_tree e)) c.deref-in-Binary-2.ensures)
    ∙ of_two-typed (secret_in n a) (secret_in n b) (literal_in a) (literal_in b) type (type_of n a) (type_of n b)
    ∙ ap (λ e. typed_of n (expr_tree e)) (sym c.in-Binary.is)

pub returns-in-Rotate-clause-typed : goal.returns-in-Rotate-clause-typed
returns-in-Rotate-clause-typed t c =
    let n = c.args.names.now in
    let a = expr_tree c.in-Rotate.operand.value in
    let type = rotate_type c.in-Rotate.amount in
    c.rotate.ensures.typed
    ∙ ap (of_one None (of_operand type)) (c.expression-operand-in-Rotate.ensures.typed
    ∙ ap (λ e. typed_of n (expr_tree e)) c.deref-in-Rotate.ensures)
    ∙ of_one-typed (secret_in n a) (literal_in a) type (type_of n a)
    ∙ ap (λ e. typed_of n (expr_tree e)) (sym c.in-Rotate.is)

pub returns-in-Convert-clause-typed : goal.returns-in-Convert-clause-typed
returns-in-Convert-clause-typed t c =
    let n = c.args.names.now in
    let a = expr_tree c.in-Convert.operand.value in
    let type = convert_type c.in-Convert.kind in
    c.convert.ensures.typed
    ∙ ap (of_one None (of_operand type)) (c.expression-operand-in-Convert.ensures.typed
    ∙ ap (λ e. typed_of n (expr_tree e)) c.deref-in-Convert.ensures)
    ∙ of_one-typed (secret_in n a) (literal_in a) type (type_of n a)
    ∙ ap (λ e. typed_of n (expr_tree e)) (sym c.in-Convert.is)

pub returns-in-Select-clause-typed : goal.returns-in-Select-clause-typed
returns-in-Select-clause-typed t c =
    let n = c.args.names.now in
    let a = expr_tree c.in-Select.condition.value in
    let b = expr_tree c.in-Select.accepted.value in
    let d = expr_tree c.in-Select.otherwise.value in
    let one = c.expression-condition.ensures.typed ∙ ap (λ e. typed_of n (expr_tree e)) c.deref-in-Select.ensures in
    let two = c.expression-accepted.ensures.typed ∙ ap (λ e. typed_of n (expr_tree e)) c.deref-in-Select-2.ensures in
    let three = c.expression-otherwise.ensures.typed
    ∙ ap (λ e. typed_of n (expr_tree e)) c.deref-in-Select-3.ensures in
    c.choice.ensures.typed
    ∙ ap₂ (λ o p. of_three None (of_choice select_type) o p c.expression-otherwise.result) one two
    ∙ ap (of_three None (of_choice select_type) (typed_of n a) (typed_of n b)) three
    ∙ of_three-typed (secret_in n a) (secret_in n b) (secret_in n d) (literal_in a) (literal_in b) (literal_in d)
    select_type (type_of n a) (type_of n b) (type_of n d)
    ∙ ap (λ e. typed_of n (expr_tree e)) (sym c.in-Select.is)

pub returns-in-Element-clause-typed : goal.returns-in-Element-clause-typed
returns-in-Element-clause-typed t c =
    let n = c.args.names.now in
    let text = c.in-Element.text in
    let b = expr_tree c.in-Element.index.value in
    c.element.ensures.typed
    ∙ ap₂ (of_two None (of_operands element_type)) c.name-array.ensures.typed
    (c.expression-index.ensures.typed ∙ ap (λ e. typed_of n (expr_tree e)) c.deref-in-Element.ensures)
    ∙ of_two-typed (secret_name n text) (secret_in n b) None (literal_in b) element_type (name_type n text)
    (type_of n b)
    ∙ ap (λ e. typed_of n (expr_tree e)) (sym c.in-Element.is)

pub returns-in-Element-clause-findings : goal.returns-in-Element-clause-findings
returns-in-Element-clause-findings t c =
    let n = c.args.names.now in
    let b = expr_tree c.in-Element.index.value in
    element_seen c.args.findings.now c.name-array.new.findings c.expression-index.new.findings
    c.element.new.findings n c.in-Element.place c.in-Element.target c.in-Element.text b c.name-array.result
    c.expression-index.result c.name-array.ensures.typed
    (c.expression-index.ensures.typed ∙ ap (λ e. typed_of n (expr_tree e)) c.deref-in-Element.ensures)
    c.name-array.ensures.findings
    (c.expression-index.ensures.findings
    ∙ ap (λ e. fold noted c.name-array.new.findings (expr_violations n (expr_tree e))) c.deref-in-Element.ensures)
    c.element.ensures.findings
    ∙ ap (λ e. fold noted c.args.findings.now (expr_violations n (expr_tree e))) (sym c.in-Element.is)

pub returns-in-Prefix-clause-findings : goal.returns-in-Prefix-clause-findings
returns-in-Prefix-clause-findings t c =
    simp (
      c.in-Prefix.is,
      fold-append noted,
      c.prefix.ensures.findings,
      c.expression-operand.ensures.findings,
      c.expression-operand.ensures.typed,
      c.deref.ensures,
    )

pub returns-in-Binary-clause-findings : goal.returns-in-Binary-clause-findings
returns-in-Binary-clause-findings t c =
    simp (
      c.in-Binary.is,
      fold-append noted,
      c.binary.ensures.findings,
      c.expression-right.ensures.findings,
      c.expression-left.ensures.findings,
      c.expression-left.ensures.typed,
      c.expression-right.ensures.typed,
      c.deref-in-Binary.ensures,
      c.deref-in-Binary-2.ensures,
      c.profile.ensures,
    )

pub returns-in-Rotate-clause-findings : goal.returns-in-Rotate-clause-findings
returns-in-Rotate-clause-findings t c =
    simp (
      c.in-Rotate.is,
      fold-append noted,
      c.rotate.ensures.findings,
      c.expression-operand-in-Rotate.ensures.findings,
      c.expression-operand-in-Rotate.ensures.typed,
      c.deref-in-Rotate.ensures,
    )

pub returns-in-Convert-clause-findings : goal.returns-in-Convert-clause-findings
returns-in-Convert-clause-findings t c =
    simp (
      c.in-Convert.is,
      fold-append noted,
      c.convert.ensures.findings,
      c.expression-operand-in-Convert.ensures.findings,
      c.expression-operand-in-Convert.ensures.typed,
      c.deref-in-Convert.ensures,
    )

pub returns-in-Select-clause-findings : goal.returns-in-Select-clause-findings
returns-in-Select-clause-findings t c =
    simp (
      c.in-Select.is,
      fold-append noted,
      c.choice.ensures.findings,
      c.expression-otherwise.ensures.findings,
      c.expression-accepted.ensures.findings,
      c.expression-condition.ensures.findings,
      c.expression-condition.ensures.typed,
      c.expression-accepted.ensures.typed,
      c.expression-otherwise.ensures.typed,
      c.deref-in-Select.ensures,
      c.deref-in-Select-2.ensures,
      c.deref-in-Select-3.ensures,
    )
