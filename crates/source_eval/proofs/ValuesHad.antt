-- The end that is worked out for expressions is one that the rules give.
use Rattle.std.proofs.Common.{List, [], ◌∷◌, sym, subst}
use Rattle.source_eval.specs.Below.{andthen, applied, binary, by_operands, convert, element, ended, Evaluates}
use Rattle.source_eval.specs.Below.{EvaluatesAll, ExprTree, given, later_faults, name, none_left, number, one_more}
use Rattle.source_eval.specs.Below.{operand_faults, operands, passed, prefix, rotate, Run, select, State, this_faults}
use Rattle.source_eval.specs.Below.{tick, truth, value, values, Word}
use Rattle.source_eval.proofs.RunEnds.{then-either, value-by-operands}

node-had : (s : State) (e : ExprTree) → EvaluatesAll s (operands e) (values s (operands e)).ends
    → Evaluates s e (value s e).ends
node-had s e all =
    subst (Evaluates s e) (sym (value-by-operands s e))
    (then-either (EvaluatesAll s (operands e)) (Evaluates s e) (values s (operands e)) (λ vs. ended (applied s e vs))
    all (λ vs d. by_operands d) (λ place d. operand_faults d))

-- an expression, and then others by any run of theirs
more-had : (s : State) (e : ExprTree) (es : List ExprTree) (others : Run (List Word))
    → Evaluates s e (value s e).ends → EvaluatesAll s es others.ends
    → EvaluatesAll s (e ∷ es) (andthen (value s e) (λ v. andthen others (λ vs. given (v ∷ vs)))).ends
more-had s e es others this later =
    then-either (Evaluates s e) (EvaluatesAll s (e ∷ es)) (value s e) _ this
    (λ v d. then-either (EvaluatesAll s es) (EvaluatesAll s (e ∷ es)) others _ later (λ vs ds. one_more d ds)
    (λ place ds. later_faults d ds))
    (λ place d. this_faults d)

pub value-had : (s : State) (e : ExprTree) → Evaluates s e (value s e).ends
value-had s (number place v kind) = node-had s (number place v kind) none_left
value-had s (truth place v) = node-had s (truth place v) none_left
value-had s (name place text) = node-had s (name place text) none_left
value-had s (prefix place operator a) =
    node-had s (prefix place operator a) (more-had s a [] _ (value-had s a) none_left)
value-had s (binary place operator a b) =
    node-had s (binary place operator a b)
    (more-had s a (b ∷ []) _ (value-had s a) (more-had s b [] _ (value-had s b) none_left))
value-had s (rotate place a amount) = node-had s (rotate place a amount) (more-had s a [] _ (value-had s a) none_left)
value-had s (convert place kind a) = node-had s (convert place kind a) (more-had s a [] _ (value-had s a) none_left)
value-had s (select place a b c) =
    node-had s (select place a b c)
    (more-had s a (b ∷ c ∷ []) _ (value-had s a)
    (more-had s b (c ∷ []) _ (value-had s b) (more-had s c [] _ (value-had s c) none_left)))
value-had s (element place target text a) =
    node-had s (element place target text a) (more-had s a [] _ (value-had s a) none_left)

pub values-had : (s : State) (es : List ExprTree) → EvaluatesAll s es (values s es).ends
values-had s [] = none_left
values-had s (e ∷ es) = more-had s e es _ (value-had s e) (values-had s es)

pub passed-had : (s : State) (es : List ExprTree) → EvaluatesAll s es (passed s es).ends
unfolding tick
passed-had s [] = none_left
passed-had s (e ∷ es) = more-had s e es (passed s es) (value-had s e) (passed-had s es)
