-- The iterations of the loops of this crate, over the lists that they go through.
use Rattle.std.proofs.Common.{◌≡◌, ℕ, ◌+◌, ◌<◌, ◌≤◌, true, false, List, [], ◌∷◌, ◌++◌, Result, drop, length, get_or}
use Rattle.std.proofs.Common.{map, cond, ◌==◌, ◌⊎◌, inl, inr, nat_lt, replicate, refl, sym, ap, ap₂, subst, ◌∙◌}
use Rattle.std.proofs.Common.{arith}
use Rattle.std.proofs.lemmas.List.{drop_more, drop_all, map-append}
use Rattle.std.proofs.lemmas.Bool.Decides.{nat_tests}
use Rattle.std.proofs.lemmas.Result.{err_from_is_err_and}
use Rattle.std.specs.Result.{IfErr, IsErrAnd}
use Rattle.std.proofs.lemmas.Bool.{ltb-false}
use Rattle.source_eval.specs.Below.{block_tree, copied_out, Expr, expr_tree, ExprTree, FixedArray, Form, is_word, Kind}
use Rattle.source_eval.specs.Below.{made_array, MutableArray, Parameter, parameter_tree, ParameterTree, passed, Run}
use Rattle.source_eval.specs.Below.{run, run_all, Runnables, SingleWord, State, Statement, statement_tree, value}
use Rattle.source_eval.specs.Below.{values, word_arguments}
use Rattle.language.specs.State.{array}
use Rattle.language.specs.State as state
use Rattle.source_eval.specs.Metering.{EndedWithin, Stopped}
use Rattle.source_eval.specs.Views.{word_of}
use Rattle.source_eval.specs.declared.fault.EvalFault.{EvalFault}
use Rattle.source_eval.specs.declared.fault.EvalFault.TheVariants.{Budget}
use Rattle.source_eval.specs.declared.values.Word.{Word}
use Rattle.source_eval.proofs.RunLemmas.{GoesOnTo, values_more, values_stop, passed_more, passed_stop, passed_lacks}
use Rattle.source_eval.proofs.RunLemmas.{all_found, block_more, block_stop}

-- what a `?` hands on
pub passes : {T : Type 0} (r : Result T EvalFault) (P : EvalFault → Type 0) (fault : EvalFault)
    → IsErrAnd r (λ y. y ≡ fault) → P fault → IfErr r P
passes r P fault h k =
    let e = err_from_is_err_and r h in
    subst (λ x. IfErr x P) (sym e.1) (subst P (sym e.2) k)

-- the next of a list
pub next_of : {A : Type 0} (xs : List A) (i : ℕ) (x : A) → i < length xs → x ≡ get_or xs i x
    → drop i xs ≡ x ∷ drop (i + 1) xs
next_of xs i x less is = drop_more xs i x less ∙ ap (λ y. y ∷ drop (i + 1) xs) (sym is)

pushed : (words new : List Word) (v : Word) → new ≡ words ++ v ∷ []
    → map word_of words ++ word_of v ∷ [] ≡ map word_of new
pushed words new v is = sym (map-append word_of words (v ∷ [])) ∙ ap (map word_of) (sym is)

-- the values of expressions
module _ (s : State) (whole : Run (List state.Word)) (es : List Expr) (start : ℕ) where
  pub each_value : (i : ℕ) (e : Expr) (now middle : ℕ) (words new : List Word) (v : Word) → i < length es
      → e ≡ get_or es i e → new ≡ words ++ v ∷ []
      → GoesOnTo whole start 0 (values s (map expr_tree (drop i es))) now (λ vs. map word_of words ++ vs)
      → EndedWithin (value s (expr_tree e)) now 0 (word_of v) middle
      → GoesOnTo whole start 0 (values s (map expr_tree (drop (i + 1) es))) middle (λ vs. map word_of new ++ vs)
  each_value i e now middle words new v less is more leads h =
      rw (← pushed words new v more)
      (values_more s whole (expr_tree e) (map expr_tree (drop (i + 1) es)) start now middle (map word_of words)
      (word_of v) (rw (next_of es i e less is) at leads) h)

  pub value_halts : (i : ℕ) (e : Expr) (now : ℕ) (words : List Word) (fault : EvalFault) → i < length es
      → e ≡ get_or es i e
      → GoesOnTo whole start 0 (values s (map expr_tree (drop i es))) now (λ vs. map word_of words ++ vs)
      → Stopped (value s (expr_tree e)) now 0 fault → Stopped whole start 0 fault
  value_halts i e now words fault less is leads h =
      values_stop s whole (expr_tree e) (map expr_tree (drop (i + 1) es)) start now
      (λ vs. map word_of words ++ vs) fault (rw (next_of es i e less is) at leads) h

  pub all_values : (i now : ℕ) (words : List Word) → length es ≤ i
      → GoesOnTo whole start 0 (values s (map expr_tree (drop i es))) now (λ vs. map word_of words ++ vs)
      → EndedWithin whole start 0 (map word_of words) now
  all_values i now words most leads =
      all_found whole start now (map word_of words) (rw (drop_all i es most) at leads)

-- the statements of a block
module _ (whole : Run State) (known : Runnables) (start room : ℕ) (ss : List Statement) where
  pub each_statement : (s t : State) (i : ℕ) (statement : Statement) (now middle : ℕ) → i < length ss
      → statement ≡ get_or ss i statement
      → GoesOnTo whole start room (run_all known s (block_tree (drop i ss))) now (λ u. u)
      → EndedWithin (run known s (statement_tree statement)) now room t middle
      → GoesOnTo whole start room (run_all known t (block_tree (drop (i + 1) ss))) middle (λ u. u)
  each_statement s t i statement now middle less is leads h =
      block_more whole known start room s t (statement_tree statement) (block_tree (drop (i + 1) ss)) now middle
      (rw (next_of ss i statement less is) at leads) h

  pub statement_halts : (s : State) (i : ℕ) (statement : Statement) (now : ℕ) (fault : EvalFault) → i < length ss
      → statement ≡ get_or ss i statement
      → GoesOnTo whole start room (run_all known s (block_tree (drop i ss))) now (λ u. u)
      → Stopped (run known s (statement_tree statement)) now room fault
      → Stopped whole start room fault
  statement_halts s i statement now fault less is leads h =
      block_stop whole known start room s (statement_tree statement) (block_tree (drop (i + 1) ss)) now fault
      (rw (next_of ss i statement less is) at leads) h

  pub all_statements : (s : State) (i now : ℕ) → length ss ≤ i
      → GoesOnTo whole start room (run_all known s (block_tree (drop i ss))) now (λ u. u)
      → EndedWithin whole start room s now
  all_statements s i now most leads =
      let l = rw (drop_all i ss most) at leads in
      l.ends s now (record { gives_it = refl; spends = omega arith; opens = omega arith })

-- nothing of a list is left
pub none_after : {A : Type 0} (xs : List A) (i : ℕ) → false ≡ nat_lt i (length xs) → drop i xs ≡ []
none_after xs i h = drop_all i xs (ltb-false i (length xs) (sym h))

no_copies : (s t : State) (ps : List ParameterTree) → copied_out s t ps [] ≡ s
no_copies s t [] = refl
no_copies s t (p ∷ ps) = refl

pub copied_all : (s t : State) (ps : List Parameter) (es : List Expr) (i : ℕ) → false ≡ nat_lt i (length es)
    → s ≡ copied_out s t (map parameter_tree (drop i ps)) (map expr_tree (drop i es))
copied_all s t ps es i h =
    sym (no_copies s t (map parameter_tree (drop i ps)))
    ∙ ap (λ xs. copied_out s t (map parameter_tree (drop i ps)) (map expr_tree xs)) (sym (none_after es i h))

no_words : (ps : List ParameterTree) → word_arguments ps [] ≡ []
no_words [] = refl
no_words (p ∷ ps) = refl

no_word : (form : Form) → (form ≡ FixedArray) ⊎ (form ≡ MutableArray) → is_word form ≡ false
no_word form (inl is) = rw is
no_word form (inr is) = rw is

-- no word argument is left
pub no_parameters : (ps : List Parameter) (es : List Expr) (i : ℕ) → length ps ≤ i
    → word_arguments (map parameter_tree (drop i ps)) (map expr_tree (drop i es)) ≡ []
no_parameters ps es i most = rw (drop_all i ps most)

pub no_arguments : (ps : List Parameter) (es : List Expr) (i : ℕ) → length es ≤ i
    → word_arguments (map parameter_tree (drop i ps)) (map expr_tree (drop i es)) ≡ []
no_arguments ps es i most = rw (drop_all i es most) (no_words (map parameter_tree (drop i ps)))

-- the values of a call's word arguments
module _ (s : State) (whole : Run (List state.Word)) (ps : List Parameter) (es : List Expr) (start : ℕ) where
  abbrev words_from : ℕ → List ExprTree
  words_from i = word_arguments (map parameter_tree (drop i ps)) (map expr_tree (drop i es))

  abbrev LeadsFrom : ℕ → ℕ → List Word → Type 0
  LeadsFrom i now words = GoesOnTo whole start 0 (passed s (words_from i)) now (λ vs. map word_of words ++ vs)

  module _ (i : ℕ) (p : Parameter) (e : Expr) (inside_ps : i < length ps) (inside_es : i < length es)
      (is_p : p ≡ get_or ps i p) (is_e : e ≡ get_or es i e) where
    both_next : words_from i ≡ cond (is_word p.form) (expr_tree e ∷ words_from (i + 1)) (words_from (i + 1))
    both_next = ap₂ (λ xs ys. word_arguments (map parameter_tree xs) (map expr_tree ys))
        (next_of ps i p inside_ps is_p) (next_of es i e inside_es is_e)

    next_word : p.form ≡ SingleWord → words_from i ≡ expr_tree e ∷ words_from (i + 1)
    next_word is = both_next
        ∙ ap (λ form. cond (is_word form) (expr_tree e ∷ words_from (i + 1)) (words_from (i + 1))) is

    pub pass_more : (before now middle : ℕ) (words new : List Word) (v : Word) → p.form ≡ SingleWord
        → new ≡ words ++ v ∷ [] → LeadsFrom i before words → before ≡ now + 1
        → EndedWithin (value s (expr_tree e)) now 0 (word_of v) middle → LeadsFrom (i + 1) middle new
    pass_more before now middle words new v is more leads one h =
        rw (← pushed words new v more)
        (passed_more s whole (expr_tree e) (words_from (i + 1)) start before now middle (map word_of words)
        (word_of v) (rw (next_word is) at leads) one h)

    pub pass_stops : (before now : ℕ) (words : List Word) (fault : EvalFault) → p.form ≡ SingleWord
        → LeadsFrom i before words → before ≡ now + 1
        → Stopped (value s (expr_tree e)) now 0 fault → Stopped whole start 0 fault
    pass_stops before now words fault is leads one h =
        passed_stop s whole (expr_tree e) (words_from (i + 1)) start before now (λ vs. map word_of words ++ vs) fault
        (rw (next_word is) at leads) one h

    pub pass_lacks : (before : ℕ) (words : List Word) (fault : EvalFault) → p.form ≡ SingleWord
        → LeadsFrom i before words → before ≡ 0 → fault ≡ Budget → Stopped whole start 0 fault
    pass_lacks before words fault is leads none budget =
        passed_lacks s whole (expr_tree e) (words_from (i + 1)) start before (λ vs. map word_of words ++ vs) fault
        (rw (next_word is) at leads) none budget

    pub pass_over : (now : ℕ) (words : List Word) → (p.form ≡ FixedArray) ⊎ (p.form ≡ MutableArray)
        → LeadsFrom i now words → LeadsFrom (i + 1) now words
    pass_over now words is leads =
        rw (both_next, no_word p.form is) at leads

  pub pass_ends : (i now : ℕ) (words : List Word) → words_from i ≡ [] → LeadsFrom i now words
      → EndedWithin whole start 0 (map word_of words) now
  pass_ends i now words none leads =
      all_found whole start now (map word_of words) (rw none at leads)

-- a declared array
values_again : (ws : List Word) → map (λ (w : state.Word). w.value) (map word_of ws) ≡ map (λ (w : Word). w.value) ws
values_again [] = refl
values_again (w ∷ ws) = ap (λ xs. w.value ∷ xs) (values_again ws)

pub first_values : (kind : Kind) (size : ℕ) (ws : List Word) (items : List ℕ) → (length ws == 0) ≡ false
    → items ≡ map (λ (w : Word). w.value) ws → array kind items ≡ made_array kind size (map word_of ws)
first_values kind size [] items some is = cc
first_values kind size (w ∷ ws) items some is = ap (array kind) (is ∙ sym (values_again (w ∷ ws)))

pub zeros : (kind : Kind) (size : ℕ) (ws : List Word) (items : List ℕ) → (length ws == 0) ≡ true
    → items ≡ replicate size 0 → array kind items ≡ made_array kind size (map word_of ws)
zeros kind size [] items none is = ap (array kind) is
zeros kind size (w ∷ ws) items none is = absurd (grind (arith, nat_tests))
