-- What is said of ranges and of work stands at a head of the tree: where the heads of procedures have no weight,
-- nothing is said at a place that has one, of a body with numbered variables either.
use Rattle.std.proofs.Common.{◌≡◌, ℕ, ◌+◌, ◌==◌, ◌&&◌, nat_lt, nat_le, Bool, true, false, if◌then◌else◌, List, [], ◌∷◌}
use Rattle.std.proofs.Common.{◌++◌, map, length, Option, None, Some, refl, append_assoc, arith}
use Rattle.std.specs.Str.{bytes_eq}
use Rattle.std.proofs.lemmas.Bool.{cond_both}
use Rattle.hepurita.proofs.grammar_laws_lemmas.Light.{none, more, both}
use Rattle.hepurita.proofs.grammar_laws_lemmas.ViolationPlaces.{AreAtLight}
use Rattle.hepurita.specs.Below.{array, assignment, because, binary, BlockTree, bounds_after, bounds_after_all, call}
use Rattle.hepurita.specs.Below.{call_block, call_names, call_result, call_start, call_value, call_variables, Callable}
use Rattle.hepurita.specs.Below.{callable, Callables, callables, called, CallTree, chain, computed, conditional}
use Rattle.hepurita.specs.Below.{convert, counter_type, declaration, DivisorMayBeZero, dropped_block, element}
use Rattle.hepurita.specs.Below.{element_assignment, element_block, ExprTree, first, FlatBlock, flattened}
use Rattle.hepurita.specs.grammar_laws.Heads.{in_block}
use Rattle.hepurita.specs.grammar_laws.Heads.{in_call, in_expr, in_exprs, in_procedure, in_procedures, in_return, in_right}
use Rattle.hepurita.specs.Below.{index_violations, IndexOutOfRange, is_word, loop, most_work}
use Rattle.hepurita.specs.grammar_laws.Heads.{in_statement, in_values}
use Rattle.hepurita.specs.Below.{name, names_after, names_after_all, naming, nothing, number, Numbers, numbers_taken}
use Rattle.hepurita.specs.Below.{numbers_taken_all, parameter_names, ParameterTree, passed, Place, prefix}
use Rattle.hepurita.specs.Below.{ProcedureTree, Profile, range_violations, result_violations, return_names, ReturnTree}
use Rattle.hepurita.specs.Below.{right, right_block, RightTree, rotate, Rule, select, size_of}
use Rattle.hepurita.specs.source_work.SourceWork.{source_work}
use Rattle.hepurita.specs.Below.{StatementTree, term, term_violations, terms_violations, TermTree, TooMuchWork, truth}
use Rattle.hepurita.specs.Below.{value_given, value_of, violations_all, when, word_as}
use Rattle.hepurita.specs.source_work.SourceWork.{work_excess, work_violations}
use Rattle.hepurita.specs.Below.{written}
use Rattle.inline.specs.declared.flat.FlatVariable.{FlatVariable}
use Rattle.inline.specs.Flat as flat
use Rattle.inline.specs.Numbering as numbering
use Rattle.language.specs.declared.interval.Interval.{Interval}
use Rattle.intervals.specs.Intervals.{Bounds, interval}
use Rattle.language.specs.declared.typing.WordType.{WordType}
use Rattle.language.specs.Known.{first_known, with_known, known_from, nothing_known}
use Rattle.language.specs.Operators.{divides}
use Rattle.language.specs.declared.why.Why.{Why}
use Rattle.language.specs.declared.why.Why.TheVariants.{Index, Divisor, TooMuch}
use Rattle.language.specs.WellTyped.{labelled}

-- what is said of two blocks one behind the other
violations_chain : (declared : List FlatVariable) (bounds : Bounds) (a b : FlatBlock)
    → violations_all declared bounds (chain a b)
    ≡ violations_all declared bounds a ++ violations_all declared (bounds_after_all declared bounds a) b
violations_chain declared bounds flat.nothing b = refl
violations_chain declared bounds (flat.first s rest) b =
    rw (violations_chain declared (bounds_after declared bounds s) rest b, append_assoc)

module _ (w : Place → ℕ) where
  at_place : (why : Why) (place : Place) → w place ≡ 0 → (rules : List Rule) → AreAtLight w (because why place rules)
  at_place why place is [] = none
  at_place why place is (r ∷ rules) = more is (at_place why place is rules)

  index_light : (place : Place) (size : ℕ) (i : Interval) → w place ≡ 0
      → AreAtLight w (index_violations place size i)
  index_light place size i h =
      at_place (Index (record { index = i; length = size })) place h (when (nat_le size i.high) IndexOutOfRange)

  -- nothing is said at a place that has a weight, whatever is declared and known
  abbrev IsLight : TermTree → Type 0
  IsLight e = (declared : List FlatVariable) (bounds : Bounds) → AreAtLight w (term_violations declared bounds e)

  abbrev IsLightValue : Option TermTree → Type 0
  IsLightValue value = (declared : List FlatVariable) (bounds : Bounds)
      → AreAtLight w (result_violations declared bounds value)

  abbrev IsLightBlock : FlatBlock → Type 0
  IsLightBlock b = (declared : List FlatVariable) (bounds : Bounds)
      → AreAtLight w (violations_all declared bounds b)

  -- a procedure that may be called, whatever the numbers of its names
  record IsLightCallable (c : Callable) : Type 0 where
    body : (names : Numbers) (n : ℕ) → IsLightBlock (c.body names n)
    value : (names : Numbers) (n : ℕ) → IsLightValue (c.value names n)

  abbrev IsLightFound : Option Callable → Type 0
  IsLightFound None = Unit {0}
  IsLightFound (Some c) = IsLightCallable c

  abbrev AreLightCallables : Callables → Type 0
  AreLightCallables known = (text : List ℕ) → IsLightFound (known text)

  chain_light : (a b : FlatBlock) → IsLightBlock a → IsLightBlock b → IsLightBlock (chain a b)
  chain_light a b h k declared bounds =
      rw (violations_chain declared bounds a b)
      (both (h declared bounds) (k declared (bounds_after_all declared bounds a)))

  given_light : (value : Option TermTree) → IsLightValue value → IsLight (value_given value)
  given_light None h = h
  given_light (Some value) h = h

  -- ---- expressions

  module _ (declared : List FlatVariable) (bounds : Bounds) where
    term_light : (names : Numbers) (e : ExprTree) → in_expr w e ≡ 0
        → AreAtLight w (term_violations declared bounds (term names e))
    term_light names (number place value kind) h = none
    term_light names (truth place value) h = none
    term_light names (name place text) h = none
    term_light names (prefix place operator operand) h = term_light names operand (omega arith)
    term_light names (binary place operator left right) h =
        both (both (term_light names left (omega arith)) (term_light names right (omega arith)))
        (at_place (Divisor (interval declared bounds (term names right))) place (omega arith)
        (when (divides operator && ((interval declared bounds (term names right)).low == 0)) DivisorMayBeZero))
    term_light names (rotate place operand amount) h = term_light names operand (omega arith)
    term_light names (convert place kind operand) h = term_light names operand (omega arith)
    term_light names (select place condition accepted otherwise) h =
        both (both (term_light names condition (omega arith)) (term_light names accepted (omega arith)))
        (term_light names otherwise (omega arith))
    term_light names (element place target text index) h =
        both (term_light names index (omega arith))
        (index_light place (size_of names text) (interval declared bounds (term names index)) (omega arith))

    terms_light : (names : Numbers) (es : List ExprTree) → in_exprs w es ≡ 0
        → AreAtLight w (terms_violations declared bounds (map (term names) es))
    terms_light names [] h = none
    terms_light names (e ∷ es) h = both (term_light names e (omega arith)) (terms_light names es (omega arith))

    values_light : (names : Numbers) (values : Option (List ExprTree)) → in_values w values ≡ 0
        → AreAtLight w (terms_violations declared bounds (map (term names) (written values)))
    values_light names None h = none
    values_light names (Some es) h = terms_light names es h

  value_light : (names : Numbers) (r : Option ReturnTree) → in_return w r ≡ 0 → IsLightValue (value_of names r)
  value_light names None h = λ declared bounds. none
  value_light names (Some r) h = λ declared bounds. term_light declared bounds names r.value (omega arith)

  -- ---- calls and statements, where these procedures may be called

  passed_light : (names : Numbers) (n : ℕ) (ps : List ParameterTree) (es : List ExprTree) → in_exprs w es ≡ 0
      → IsLightBlock (passed names n ps es)
  passed_light names n [] es h = λ declared bounds. none
  passed_light names n (p ∷ ps) [] h = λ declared bounds. none
  passed_light names n (p ∷ ps) (e ∷ es) h =
      cond_both (is_word p.form) (flat.first (flat.declare n (labelled p.kind p.label) false (term names e))
      (passed names (n + 1) ps es)) (passed names n ps es) IsLightBlock
      (λ is declared bounds. both (term_light declared bounds names e (omega arith))
      (passed_light names (n + 1) ps es (omega arith) declared _))
      (λ is. passed_light names n ps es (omega arith))

  dropped_light : (n : ℕ) (result : Option WordType) (value : Option TermTree) → IsLightValue value
      → IsLightBlock (dropped_block n result value)
  dropped_light n None value h = λ declared bounds. none
  dropped_light n (Some word) value h = λ declared bounds. both (given_light value h declared bounds) none

  module _ (known : Callables) (light : AreLightCallables known) where
    module _ (names : Numbers) (n : ℕ) (c : CallTree) (h : in_call w c ≡ 0) where
      call_light : IsLightBlock (call_block (known c.name) names n c.arguments)
      call_light = by (known c.name) (light c.name)
        where
          by : (found : Option Callable) → IsLightFound found → IsLightBlock (call_block found names n c.arguments)
          by None it = λ declared bounds. none
          by (Some f) it =
              chain_light (passed names n f.parameters c.arguments) _
              (passed_light names n f.parameters c.arguments (omega arith))
              (it.body (call_names names n f c.arguments) (call_start n f c.arguments))

      result_light : IsLightValue (call_value (known c.name) names n c.arguments)
      result_light = by (known c.name) (light c.name)
        where
          by : (found : Option Callable) → IsLightFound found → IsLightValue (call_value found names n c.arguments)
          by None it = λ declared bounds. none
          by (Some f) it = it.value (call_names names n f c.arguments) (call_start n f c.arguments)

    before_light : (names : Numbers) (n : ℕ) (r : RightTree) → in_right w r ≡ 0
        → IsLightBlock (right_block known names n r)
    before_light names n (computed e) h = λ declared bounds. none
    before_light names n (called c) h =
        chain_light (call_block (known c.name) names n c.arguments) _ (call_light names n c h)
        (λ declared bounds. none)

    right_light : (names : Numbers) (n : ℕ) (r : RightTree) → in_right w r ≡ 0 → IsLight (right known names n r)
    right_light names n (computed e) h = λ declared bounds. term_light declared bounds names e h
    right_light names n (called c) h =
        given_light (call_value (known c.name) names n c.arguments) (result_light names n c h)

    put_light : (names : Numbers) (n : ℕ) (bracket : Place) (text : List ℕ) (index : ExprTree) (r : RightTree)
        → w bracket ≡ 0 → in_expr w index ≡ 0 → in_right w r ≡ 0
        → IsLightBlock (element_block known names n bracket text index r)
    put_light names n bracket text index (computed e) at h k = λ declared bounds.
        both (both (both (term_light declared bounds names index h)
        (index_light bracket (size_of names text) (interval declared bounds (term names index)) at))
        (term_light declared bounds names e k)) none
    put_light names n bracket text index (called c) at h k = λ declared bounds.
        both (both (term_light declared bounds names index h)
        (index_light bracket (size_of names text) (interval declared bounds (term names index)) at))
        (chain_light (call_block (known c.name) names (n + 1) c.arguments) _ (call_light names (n + 1) c k)
        (λ declared bounds.
        both (both (index_light bracket (size_of names text) (interval declared bounds (flat.variable n)) at)
        (given_light (call_value (known c.name) names (n + 1) c.arguments) (result_light names (n + 1) c k) declared
        bounds)) none)
        declared _)

    mutual
      statement_light : (names : Numbers) (n : ℕ) (s : StatementTree) → in_statement w s ≡ 0
          → IsLightBlock (numbering.statement known names n s)
      statement_light names n (declaration place label mutable kind text r) h =
          chain_light (right_block known names n r) _ (before_light names n r (omega arith))
          (λ declared bounds. both (right_light names n r (omega arith) declared bounds) none)
      statement_light names n (array place label mutable kind size text values) h =
          λ declared bounds. both (values_light declared bounds names values (omega arith)) none
      statement_light names n (assignment place target text r) h =
          chain_light (right_block known names n r) _ (before_light names n r (omega arith))
          (λ declared bounds. both (right_light names n r (omega arith) declared bounds) none)
      statement_light names n (element_assignment place bracket target text index r) h =
          put_light names n bracket text index r (omega arith) (omega arith) (omega arith)
      statement_light names n (call c) h =
          chain_light (call_block (known c.name) names n c.arguments) _ (call_light names n c h)
          (dropped_light (n + length (call_variables (known c.name) c.arguments)) (call_result (known c.name))
          (call_value (known c.name) names n c.arguments) (result_light names n c h))
      statement_light names n (conditional place condition accepted otherwise) h = λ declared bounds.
          both (both (both (term_light declared bounds names condition (omega arith))
          (block_light names n accepted (omega arith) declared _))
          (block_light names (n + numbers_taken_all known accepted) otherwise (omega arith) declared _)) none
      statement_light names n (loop place counter text low high body) h = λ declared bounds.
          both (both (both (term_light declared bounds names low (omega arith))
          (term_light declared bounds names high (omega arith)))
          (block_light (naming names text n (word_as counter_type false)) (n + 1) body (omega arith) declared _)) none

      block_light : (names : Numbers) (n : ℕ) (b : BlockTree) → in_block w b ≡ 0
          → IsLightBlock (numbering.block known names n b)
      block_light names n nothing h = λ declared bounds. none
      block_light names n (first s rest) h =
          chain_light (numbering.statement known names n s) _ (statement_light names n s (omega arith))
          (block_light (names_after known names n s) (n + numbers_taken known s) rest (omega arith))

    callable_light : (p : ProcedureTree) → in_procedure w p ≡ 0 → IsLightCallable (callable known p)
    callable_light p h = record {
      body = λ names n. block_light names n p.body (omega arith);
      value = λ names n. value_light (names_after_all known names n p.body) p.returned (omega arith);
    }

  -- ---- the procedures that may be called

  one_more : (known : Callables) (p : ProcedureTree) → AreLightCallables known → in_procedure w p ≡ 0
      → AreLightCallables (with_known known p.name (callable known p))
  one_more known p light h text = by (known text) (bytes_eq text p.name) (light text)
    where
      by : (found : Option Callable) (same : Bool) → IsLightFound found
          → IsLightFound (first_known found (if same then Some (callable known p) else None))
      by (Some c) same k = k
      by None true k = callable_light known light p h
      by None false k = tt

  more_light : (known : Callables) (ps : List ProcedureTree) → AreLightCallables known → in_procedures w ps ≡ 0
      → AreLightCallables (known_from callable known ps)
  more_light known [] light h = light
  more_light known (p ∷ ps) light h =
      more_light (with_known known p.name (callable known p)) ps (one_more known p light (omega arith)) (omega arith)

  pub ranges_light : (profile : Profile) (before : List ProcedureTree) (p : ProcedureTree)
      → in_procedures w before ≡ 0 → in_procedure w p ≡ 0
      → AreAtLight w (range_violations (flattened profile before p))
  ranges_light profile before p front h =
      let whole = flattened profile before p in
      both
      (block_light (callables before) (more_light nothing_known before (λ text. tt) front) (parameter_names p)
      (length p.parameters) p.body (omega arith) whole.declared _)
      (value_light (return_names (callables before) p) p.returned (omega arith) whole.declared _)

  pub work_light : (before : List ProcedureTree) (p : ProcedureTree) → in_procedure w p ≡ 0
      → AreAtLight w (work_violations before p)
  work_light before p h =
      at_place (TooMuch (work_excess before p)) p.place (omega arith)
      (when (nat_lt most_work (source_work before p)) TooMuchWork)
