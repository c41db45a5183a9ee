-- The names of a body that begins, one after another: of a name that stands twice the first counts.
use Rattle.std.proofs.Common.{◌≡◌, ℕ, ◌+◌, ◌<◌, ◌≤◌, Bool, true, false, cond, is_some, List, [], ◌∷◌, Option, Some}
use Rattle.std.proofs.Common.{None, drop, get_or, length, map, nat_lt, refl, sym, ap, ap₂, ◌∙◌}
use Rattle.std.proofs.Math.Path.{fun_ext}
use Rattle.std.proofs.lemmas.List.{drop_all}
use Rattle.std.proofs.lemmas.Slice.Eq.{bytes_eq-Decides}
use Rattle.std.specs.Str.{bytes_eq}
use Rattle.source_eval.specs.Below.{Arg, argument_held, argument_value, begun, empty, Expr, expr_tree, holding}
use Rattle.source_eval.specs.Below.{Parameter, parameter_tree, ParameterTree, State, Value, with_some, with_value, Word}
use Rattle.source_eval.specs.Below.{words_left}
use Rattle.source_eval.proofs.LoopLemmas.{next_of, none_after}

-- the first of two values
abbrev first_of : Option Value → Option Value → Option Value
first_of (Some v) other = Some v
first_of None other = other

-- what the one state holds, and where it holds nothing, what the other does
abbrev pub over : State → State → State
over s t = λ text. first_of (s text) (t text)

abbrev with_first : State → List ℕ → Value → State
with_first s text v = cond (is_some (s text)) s (with_value s text v)

first_alone : (o : Option Value) → first_of o None ≡ o
first_alone None = refl
first_alone (Some v) = refl

-- nothing is left
pub over_empty : (s : State) → over s empty ≡ s
over_empty s = fun_ext (λ text. first_alone (s text))

-- at another name, and at the name itself
set_at : (b : Bool) (here there rest : Option Value) (v : Value) → (b ≡ true → there ≡ here)
    → first_of (cond (is_some here) there (cond b (Some v) there)) rest ≡ first_of there (cond b (Some v) rest)
set_at false None there rest v same = refl
set_at false (Some w) there rest v same = refl
set_at true None there rest v same = rw (same refl) refl
set_at true (Some w) there rest v same = rw (same refl) refl

at_name : (b : Bool) (s : State) (text other : List ℕ) (v : Value)
    → cond b s (with_value s text v) other ≡ cond b (s other) (with_value s text v other)
at_name true s text other v = refl
at_name false s text other v = refl

pub over_first : (s t : State) (text : List ℕ) (v : Value)
    → over (with_first s text v) t ≡ over s (with_value t text v)
over_first s t text v = fun_ext (λ other.
    ap (λ o. first_of o (t other)) (at_name (is_some (s text)) s text other v)
    ∙ set_at (bytes_eq other text) (s text) (s other) (t other) v
    (λ same. ap s ((bytes_eq-Decides other text).0 same)))

-- the names of a called body
module _ (s whole : State) (ps : List Parameter) (es : List Expr) (i : ℕ) (p : Parameter) (e : Expr)
    (inside_ps : i < length ps) (inside_es : i < length es) (is_p : p ≡ get_or ps i p) (is_e : e ≡ get_or es i e)
    (vs rest : List Word) (left : rest ≡ words_left p.form vs) (before : State)
    (so_far : over before (begun s (map parameter_tree (drop i ps)) (map expr_tree (drop i es)) vs) ≡ whole) where
  abbrev others : State
  others = begun s (map parameter_tree (drop (i + 1) ps)) (map expr_tree (drop (i + 1) es)) rest

  at_next : over before (with_some others p.name (argument_held s p.form (expr_tree e) vs)) ≡ whole
  at_next = rw (next_of ps i p inside_ps is_p, next_of es i e inside_es is_e, ← left) at so_far

  pub begun_more : (v : Value) (after : State) → Some v ≡ argument_held s p.form (expr_tree e) vs
      → after ≡ with_first before p.name v → over after others ≡ whole
  begun_more v after holds set =
      ap (λ t. over t others) set ∙ over_first before others p.name v
      ∙ ap (λ o. over before (with_some others p.name o)) holds ∙ at_next

  pub begun_same : (after : State) → None ≡ argument_held s p.form (expr_tree e) vs → after ≡ before
      → over after others ≡ whole
  begun_same after none same =
      ap (λ t. over t others) same ∙ ap (λ o. over before (with_some others p.name o)) none ∙ at_next

-- nothing is left to hold
no_begun : (s : State) (ps : List ParameterTree) (vs : List Word) → begun s ps [] vs ≡ empty
no_begun s [] vs = refl
no_begun s (p ∷ ps) vs = refl

pub begun_all : (s whole before : State) (ps : List Parameter) (es : List Expr) (i : ℕ) (vs : List Word)
    → length ps ≤ i
    → over before (begun s (map parameter_tree (drop i ps)) (map expr_tree (drop i es)) vs) ≡ whole → before ≡ whole
begun_all s whole before ps es i vs most so_far =
    sym (over_empty before) ∙ (rw (drop_all i ps most) at so_far)

pub begun_early : (s whole before : State) (ps : List Parameter) (es : List Expr) (i : ℕ) (vs : List Word)
    → false ≡ nat_lt i (length es)
    → over before (begun s (map parameter_tree (drop i ps)) (map expr_tree (drop i es)) vs) ≡ whole → before ≡ whole
begun_early s whole before ps es i vs past so_far =
    sym (over_empty before)
    ∙ (rw (none_after es i past, no_begun s (map parameter_tree (drop i ps)) vs) at so_far)

-- the names of the export
pub holding_more : (whole : State) (ps : List Parameter) (args : List Arg) (i : ℕ) (p : Parameter) (a : Arg)
    (v : Value) (before after : State) → i < length ps → i < length args → p ≡ get_or ps i p → a ≡ get_or args i a
    → v ≡ argument_value p.kind a → after ≡ with_first before p.name v
    → over before (holding (map parameter_tree (drop i ps)) (drop i args)) ≡ whole
    → over after (holding (map parameter_tree (drop (i + 1) ps)) (drop (i + 1) args)) ≡ whole
holding_more whole ps args i p a v before after inside_ps inside_args is_p is_a holds set so_far =
    let others = holding (map parameter_tree (drop (i + 1) ps)) (drop (i + 1) args) in
    ap (λ t. over t others) set ∙ over_first before others p.name v
    ∙ ap (λ w. over before (with_value others p.name w)) holds
    ∙ sym
    (ap (over before) (ap₂ (λ xs ys. holding (map parameter_tree xs) ys) (next_of ps i p inside_ps is_p)
    (next_of args i a inside_args is_a)))
    ∙ so_far

no_holding : (ps : List ParameterTree) → holding ps [] ≡ empty
no_holding [] = refl
no_holding (p ∷ ps) = refl

pub holding_all : (whole before : State) (ps : List Parameter) (args : List Arg) (i : ℕ) → length ps ≤ i
    → over before (holding (map parameter_tree (drop i ps)) (drop i args)) ≡ whole → before ≡ whole
holding_all whole before ps args i most so_far =
    sym (over_empty before) ∙ (rw (drop_all i ps most) at so_far)

pub holding_early : (whole before : State) (ps : List Parameter) (args : List Arg) (i : ℕ)
    → false ≡ nat_lt i (length args) → over before (holding (map parameter_tree (drop i ps)) (drop i args)) ≡ whole
    → before ≡ whole
holding_early whole before ps args i past so_far =
    sym (over_empty before)
    ∙ (rw (none_after args i past, no_holding (map parameter_tree (drop i ps))) at so_far)
