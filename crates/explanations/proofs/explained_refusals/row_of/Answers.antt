-- There is a row, since each rule is listed.
use Rattle.std.proofs.Common.{List, ℕ, Contains, sym, subst, true≢false}
use Rattle.explanations.specs.Listed.{listed}
use Rattle.explanations.proofs.explained_refusals_lemmas.ListedRules.{is_listed}
use Rattle.explanations.proofs.explained_refusals.row_of.Goals as goal

pub unreachable-requires : goal.unreachable-requires
unreachable-requires c =
    true≢false
    (sym
    (c.in-None.ensures.listed.1
    (subst (λ (code : List ℕ). Contains listed code) (sym c.code.ensures) (is_listed c.args.rule))))
