-- What is quiet has no path.
use Rattle.std.proofs.Common.{◌≡◌, ℕ, ◌&&◌, true, false, true≢false, not, [], ◌++◌, refl, sym, ap₂, ◌∙◌}
use Rattle.std.proofs.lemmas.Bool.{cond-false, or_parts, and_parts, not-true}
use Rattle.branch_removal.specs.Quiet.{is_marked, is_quiet}
use Rattle.branch_removal.specs.Below.{binary, BinaryOperator, convert, divides, element, marks_of, multiplies, number}
use Rattle.branch_removal.specs.Below.{Path, path_in, Place, prefix, rotate, select, TermTree, truth, value_in, Values}
use Rattle.branch_removal.specs.Below.{variable}

-- operands of an operator without marks are not on the path
pub no_marks : (place : Place) (operator : BinaryOperator) (a b : ℕ) → is_marked operator ≡ false
    → marks_of place operator a b ≡ []
no_marks place operator a b unmarked =
    let parts = or_parts (divides operator) (multiplies operator) unmarked in
    cond-false (divides operator) _ _ parts.0 ∙ cond-false (multiplies operator) _ _ parts.1

pub quiet_path : (m : Values) (e : TermTree) → is_quiet e ≡ true → path_in m e ≡ []
quiet_path m (number value kind) quiet = refl
quiet_path m (truth value) quiet = refl
quiet_path m (variable x) quiet = refl
quiet_path m (prefix operator width operand) quiet = quiet_path m operand quiet
quiet_path m (binary place operator width left right) quiet =
    let outer = and_parts (not (is_marked operator) && is_quiet left) (is_quiet right) quiet in
    let inner = and_parts (not (is_marked operator)) (is_quiet left) outer.0 in
    ap₂ (λ (p q : Path). p ++ q)
    (ap₂ (λ (p q : Path). p ++ q) (quiet_path m left inner.1) (quiet_path m right outer.1))
    (no_marks place operator (value_in m left) (value_in m right) (not-true (is_marked operator) inner.0))
quiet_path m (rotate width operand amount) quiet = quiet_path m operand quiet
quiet_path m (convert kind operand) quiet = quiet_path m operand quiet
quiet_path m (select condition accepted otherwise) quiet =
    let outer = and_parts (is_quiet condition && is_quiet accepted) (is_quiet otherwise) quiet in
    let inner = and_parts (is_quiet condition) (is_quiet accepted) outer.0 in
    ap₂ (λ (p q : Path). p ++ q)
    (ap₂ (λ (p q : Path). p ++ q) (quiet_path m condition inner.0) (quiet_path m accepted inner.1))
    (quiet_path m otherwise outer.1)
quiet_path m (element place x size index) quiet = absurd (true≢false (sym quiet))
