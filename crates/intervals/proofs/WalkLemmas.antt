-- What branches and loops lead to, by the lists of their statements.
use Rattle.std.proofs.lemmas.List.Sums.{fold-append}
use Rattle.std.proofs.Common.{◌≡◌, ℕ, List, Result, Ok, Err, OnOk, ◌++◌, Vec, Global, fold, slice_set, sym}
use Rattle.std.proofs.Common.{ap, ap₂, ◌∙◌, ◌<◌, ◌+◌, length, drop, get_or, drop-cons, add-one}
use Rattle.intervals.specs.Below.{Branch, branch, first, flat_block, flat_tree, FlatStatement, FlatVariable, Interval}
use Rattle.intervals.specs.Below.{Label, Loop, loop, Noted, noted, Term, term_tree, Violation}
use Rattle.intervals.specs.Intervals.{Bounds, interval, with_bound}
use Rattle.intervals.specs.Narrowing.{met, met_all, where_true, where_false}
use Rattle.intervals.specs.declared.said.SaidOfVariable.{SaidOfVariable}
use Rattle.intervals.specs.Ranges.{counted, counted_all, counter_interval, in_loop, most_iterations}
use Rattle.intervals.proofs.Below.{branch_tree, loop_tree}
use Rattle.intervals.specs.Ranges.{violations, violations_all, term_violations}

-- what holds on success follows from what does
pub on_ok : {T E P Q : Type 0} (result : Result T E) → (P → Q) → OnOk result P → OnOk result Q
on_ok (Ok value) f p = f p
on_ok (Err e) f p = tt

-- three lists of violations, one after another
three_parts : (seen one two last : Noted) (e f g : List Violation)
    → one ≡ fold noted seen e → two ≡ fold noted one f → last ≡ fold noted two g
    → last ≡ fold noted seen (e ++ f ++ g)
three_parts seen one two last e f g a b c =
    c ∙ (ap (λ s. fold noted s g) (b
    ∙ (ap (λ s. fold noted s f) a ∙ sym (fold-append noted seen e f)))
    ∙ sym (fold-append noted seen (e ++ f) g))

module _ (declared : List FlatVariable) (bounds : Bounds) (statement : FlatStatement) where
  module _ (label : Label) (condition : Term) (accepted otherwise : Vec FlatStatement Global)
      (is : statement ≡ Branch label condition accepted otherwise)
      (ones others : List FlatStatement) (one : ones ≡ accepted.items) (other : others ≡ otherwise.items)
      (between : Bounds) (same : between ≡ bounds) where
    tree : flat_tree statement ≡ branch label (term_tree condition) (flat_block ones) (flat_block others)
    tree = ap flat_tree is ∙ (branch_tree label condition accepted otherwise
        ∙ ap₂ (λ xs ys. branch label (term_tree condition) (flat_block xs) (flat_block ys)) (sym one) (sym other))

    pub branch_iterations : (iterations middle last : List ℕ)
        → middle ≡ counted_all declared (where_true declared bounds label (term_tree condition)) iterations
        (flat_block ones)
        → last ≡ counted_all declared (where_false declared between label (term_tree condition)) middle
        (flat_block others)
        → last ≡ counted declared bounds iterations (flat_tree statement)
    branch_iterations iterations middle last a o = rw tree
        (o ∙ ap₂ (λ b ts. counted_all declared (where_false declared b label (term_tree condition)) ts
        (flat_block others)) same a)

    pub branch_seen : (seen of_condition of_accepted last : Noted)
        → of_condition ≡ fold noted seen (term_violations declared bounds (term_tree condition))
        → of_accepted ≡ fold noted of_condition
        (violations_all declared (where_true declared bounds label (term_tree condition)) (flat_block ones))
        → last ≡ fold noted of_accepted
        (violations_all declared (where_false declared between label (term_tree condition)) (flat_block others))
        → last ≡ fold noted seen (violations declared bounds (flat_tree statement))
    branch_seen seen of_condition of_accepted last c a o = rw tree
        (three_parts seen of_condition of_accepted last (term_violations declared bounds (term_tree condition))
        (violations_all declared (where_true declared bounds label (term_tree condition)) (flat_block ones))
        (violations_all declared (where_false declared bounds label (term_tree condition)) (flat_block others)) c a
        (o ∙ ap (λ b. fold noted of_accepted
        (violations_all declared (where_false declared b label (term_tree condition)) (flat_block others))) same))

  module _ (counter : ℕ) (low high : Term) (body : Vec FlatStatement Global)
      (is : statement ≡ Loop counter low high body)
      (ones : List FlatStatement) (one : ones ≡ body.items) (a b numbers : Interval)
      (at_low : a ≡ interval declared bounds (term_tree low))
      (at_high : b ≡ interval declared bounds (term_tree high)) (within : numbers ≡ counter_interval a b) where
    whole : flat_tree statement ≡ loop counter (term_tree low) (term_tree high) (flat_block ones)
    whole = ap flat_tree is ∙ (loop_tree counter low high body
        ∙ ap (λ xs. loop counter (term_tree low) (term_tree high) (flat_block xs)) (sym one))

    inside : with_bound bounds counter numbers ≡ in_loop declared bounds counter (term_tree low) (term_tree high)
    inside = ap (with_bound bounds counter) (within ∙ ap₂ counter_interval at_low at_high)

    pub loop_iterations : (iterations counting last : List ℕ) (most : ℕ)
        → most ≡ most_iterations a b
        → counting ≡ slice_set iterations counter most
        → last ≡ counted_all declared (with_bound bounds counter numbers) counting (flat_block ones)
        → last ≡ counted declared bounds iterations (flat_tree statement)
    loop_iterations iterations counting last most m c l =
        let counted_here = c ∙ ap (slice_set iterations counter) (m ∙ ap₂ most_iterations at_low at_high) in
        rw whole (l ∙ ap₂ (λ bs ts. counted_all declared bs ts (flat_block ones)) inside counted_here)

    pub loop_seen : (seen of_low of_high last : Noted)
        → of_low ≡ fold noted seen (term_violations declared bounds (term_tree low))
        → of_high ≡ fold noted of_low (term_violations declared bounds (term_tree high))
        → last ≡ fold noted of_high
        (violations_all declared (with_bound bounds counter numbers) (flat_block ones))
        → last ≡ fold noted seen (violations declared bounds (flat_tree statement))
    loop_seen seen of_low of_high last l h t = rw whole
        (three_parts seen of_low of_high last (term_violations declared bounds (term_tree low))
        (term_violations declared bounds (term_tree high))
        (violations_all declared (in_loop declared bounds counter (term_tree low) (term_tree high)) (flat_block ones)) l h
        (t ∙ ap (λ bs. fold noted of_high (violations_all declared bs (flat_block ones))) inside))

-- what is left of the statements, the next one apart
pub next_statement : (body : List FlatStatement) (i : ℕ) (d : FlatStatement) → i < length body
    → flat_block (drop i body) ≡ first (flat_tree (get_or body i d)) (flat_block (drop (i + 1) body))
next_statement body i d within =
    ap flat_block (drop-cons body i d within)
    ∙ ap (λ n. first (flat_tree (get_or body i d)) (flat_block (drop n body))) (sym (add-one i))

pub next_said : (bounds : Bounds) (told : List SaidOfVariable) (i : ℕ) (d : SaidOfVariable) → i < length told
    → met_all bounds (drop i told) ≡ met_all (met bounds (get_or told i d)) (drop (i + 1) told)
next_said bounds told i d within =
    ap (met_all bounds) (drop-cons told i d within)
    ∙ ap (λ n. met_all (met bounds (get_or told i d)) (drop n told)) (sym (add-one i))
