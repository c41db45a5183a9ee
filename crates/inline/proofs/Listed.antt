-- Where declarations stand in the list of all, and how many there are.
use Rattle.std.proofs.Common.{◌≡◌, ℕ, zero, suc, ◌+◌, false, List, [], ◌∷◌, ◌++◌, length, Option, Some, None, refl}
use Rattle.std.proofs.Common.{ap, ◌∙◌, subst, arith, slice_get, length-append, inl, inr, Bool, true, if◌then◌else◌}
use Rattle.std.proofs.lemmas.Bool.{cases_Bool}
use Rattle.std.proofs.lemmas.Option.{none-some}
use Rattle.inline.specs.declared.flat.FlatVariable.{FlatVariable}
use Rattle.inline.specs.Flat.{TermTree, FlatTree, FlatBlock, chain, word_as, counter_type, array_as}
use Rattle.inline.specs.Flat as flat
use Rattle.inline.specs.FlatTyping.{Types, types_after_all, declarations_in, declarations_in_all, IsNew, IsNumbered}
use Rattle.inline.specs.FlatTyping.{AreNumbered}
use Rattle.inline.specs.Numbering.{Numbers, Callable, Callables, callable, callables, passed, passed_variables}
use Rattle.inline.specs.Numbering.{call_block, call_variables, call_result, call_value, call_names, call_start}
use Rattle.inline.specs.Numbering.{right_block, right_variables, value_given, element_block, element_variables}
use Rattle.inline.specs.Numbering.{dropped_block, dropped_variables, declared_in, declared_in_all, numbers_taken}
use Rattle.inline.specs.Numbering.{numbers_taken_all, names_after, naming, statement, block, single, number_of}
use Rattle.inline.specs.Numbering.{size_of, right_end, names_after_all}
use Rattle.inline.specs.Below.{AreWellTyped, array, assignment, BlockTree, call, called, computed, conditional}
use Rattle.inline.specs.Below.{declaration, declares, declares_array, element_assignment, ExprTree, first, first_known}
use Rattle.inline.specs.Below.{is_word, IsWellTyped, Known, known_from, known_of, Label, labelled, loop, no_statement}
use Rattle.inline.specs.Below.{nothing, nothing_known, one_more, ParameterTree, Place, ProcedureTree, RightTree, Scope}
use Rattle.inline.specs.Below.{scope_after, scope_after_all, StatementTree, with_known, WordType}
use Rattle.std.specs.Str.{bytes_eq}
use Rattle.inline.proofs.ChainTypes.{chain-declarations, chain-numbered, kept_by_numbered, chain-types}
use Rattle.inline.proofs.Linked.{Linked, later, linked_beside, linked_declared}

-- in the list of all, these stand from n on
pub record Lists (all : List FlatVariable) (n : ℕ) (ds : List FlatVariable) : Type 0 where
  pub at : (i : ℕ) (d : FlatVariable) → slice_get ds i ≡ Some d → slice_get all (n + i) ≡ Some d

get_left : (xs ys : List FlatVariable) (i : ℕ) (d : FlatVariable) → slice_get xs i ≡ Some d
    → slice_get (xs ++ ys) i ≡ Some d
get_left [] ys i d is = absurd (none-some d is)
get_left (x ∷ xs) ys zero d is = is
get_left (x ∷ xs) ys (suc i) d is = get_left xs ys i d is

get_right : (xs ys : List FlatVariable) (i : ℕ) → slice_get (xs ++ ys) (length xs + i) ≡ slice_get ys i
get_right [] ys i = ap (slice_get ys) (omega arith)
get_right (x ∷ xs) ys i =
    let same : length (x ∷ xs) + i ≡ suc (length xs + i) = omega arith in
    ap (slice_get (x ∷ xs ++ ys)) same ∙ get_right xs ys i

-- the list that ends with these
pub lists_end : (xs ys : List FlatVariable) → Lists (xs ++ ys) (length xs) ys
lists_end xs ys = record { at = λ i d is. get_right xs ys i ∙ is }

module _ {all : List FlatVariable} {n : ℕ} where
  pub lists_left : (xs ys : List FlatVariable) → Lists all n (xs ++ ys) → Lists all n xs
  lists_left xs ys lists = record { at = λ i d is. lists.at i d (get_left xs ys i d is) }

  pub lists_right : (xs ys : List FlatVariable) → Lists all n (xs ++ ys) → Lists all (n + length xs) ys
  lists_right xs ys lists = record {
    at = λ i d is. ap (slice_get all) (omega arith) ∙ lists.at (length xs + i) d (get_right xs ys i ∙ is);
  }

  pub lists_rest : {d : FlatVariable} {ds : List FlatVariable} → Lists all n (d ∷ ds) → Lists all (n + 1) ds
  lists_rest {d = d} {ds = ds} lists = lists_right (d ∷ []) ds lists

  pub lists_first : {d : FlatVariable} {ds : List FlatVariable} → Lists all n (d ∷ ds) → slice_get all n ≡ Some d
  lists_first {d = d} lists = ap (slice_get all) (omega arith) ∙ lists.at 0 d refl

  -- so the first has a number that is new
  pub first_new : {scope : Scope} {names : Numbers} {types : Types} {d : FlatVariable} {ds : List FlatVariable}
      → Linked scope names types n → Lists all n (d ∷ ds) → IsNew all types n d
  first_new linked lists = record { new = linked.fresh n (omega arith); listed = lists_first lists }

-- Numbers.

-- a block declares so many variables, which have the numbers from n on
pub record Takes (n : ℕ) (b : FlatBlock) (count : ℕ) : Type 0 where
  pub numbered : AreNumbered n b
  pub counted : declarations_in_all b ≡ count

-- one behind another
takes_chain : {n j k whole : ℕ} {a b : FlatBlock} → Takes n a j → Takes (n + j) b k → whole ≡ j + k
    → Takes n (chain a b) whole
takes_chain {n = n} {a = a} {b = b} one other sum = record {
  numbered = chain-numbered n a b one.numbered (rw one.counted other.numbered);
  counted = omega (arith, chain-declarations a b);
}

takes_skip : {n k : ℕ} {b : FlatBlock} → Takes n b k → Takes n (flat.first flat.skip b) k
takes_skip {n = n} {b = b} is =
    let same : n ≡ n + 0 = omega arith in
    record { numbered = (tt, subst (λ m. AreNumbered m b) same is.numbered); counted = omega arith }

-- one statement
takes_one : {n k : ℕ} (s : FlatTree) → IsNumbered n s → declarations_in s ≡ k → Takes n (single s) k
takes_one s is count = record { numbered = (is, tt); counted = omega arith }

-- the names in scope go on with further types
pub passed_over : {scope : Scope} {names : Numbers} {types : Types} {n count : ℕ} {b : FlatBlock} → Takes n b count
    → Linked scope names types n → Linked scope names (types_after_all types b) (n + count)
passed_over {scope = scope} {names = names} {types = types} {n = n} {b = b} takes linked =
    later (omega arith)
    (kept_by_numbered (λ k t. Linked scope names t k) (λ k t d kept. linked_beside kept d)
    (λ k m t more. later more) b n types takes.numbered linked)

-- What is true of all that is made, where each is made from such as it is true of.

-- it is true of what is there
abbrev pub OnSome : {A : Type 0} → (A → Type 0) → Option A → Type 0
OnSome P None = Unit {0}
OnSome P (Some a) = P a

-- of each that is known
abbrev pub AllKnown : {A : Type 0} → (A → Type 0) → Known A → Type 0
AllKnown P known = (text : List ℕ) → OnSome P (known text)

module _ {A : Type 0} (P : A → Type 0) (make : Known A → ProcedureTree → A)
    (true_of : (known : Known A) → AllKnown P known → (p : ProcedureTree) → P (make known p)) where
  first-true : (a b : Option A) → OnSome P a → OnSome P b → OnSome P (first_known a b)
  first-true (Some x) b one other = one
  first-true None b one other = other

  one-true : (b : Bool) (a : A) → P a → OnSome P (if b then Some a else None)
  one-true true a is = is
  one-true false a is = tt

  from-true : (known : Known A) (ps : List ProcedureTree) → AllKnown P known → AllKnown P (known_from make known ps)
  from-true known [] all = all
  from-true known (p ∷ ps) all =
      from-true (with_known known p.name (make known p)) ps
      (λ text. first-true (known text) _ (all text)
      (one-true (bytes_eq text p.name) (make known p) (true_of known all p)))

  pub known-true : (ps : List ProcedureTree) → AllKnown P (known_of make ps)
  known-true ps = from-true nothing_known ps (λ text. tt)

-- Calls.

-- a body that may be called declares what it says
abbrev pub IsCounted : Callable → Type 0
IsCounted c = (names : Numbers) (n : ℕ) → Takes n (c.body names n) (length c.declared)

pub passed_takes : (names : Numbers) (n : ℕ) (ps : List ParameterTree) (es : List ExprTree)
    → Takes n (passed names n ps es) (length (passed_variables ps es))
passed_takes names n [] es = record { numbered = tt; counted = refl }
passed_takes names n (p ∷ ps) [] = record { numbered = tt; counted = refl }
passed_takes names n (p ∷ ps) (e ∷ es) = elim (cases_Bool (is_word p.form)) [
  | inl word ↦ (
      let rest = passed_takes names (n + 1) ps es in
      rw word (record { numbered = (refl, rest.numbered); counted = omega arith }))
  | inr given ↦ rw given (passed_takes names n ps es)
]

pub call_takes : (names : Numbers) (es : List ExprTree) (n : ℕ) (o : Option Callable) → OnSome IsCounted o
    → Takes n (call_block o names n es) (length (call_variables o es))
call_takes names es n None is = record { numbered = tt; counted = refl }
call_takes names es n (Some c) is = takes_chain (passed_takes names n c.parameters es)
    (is (call_names names n c es) (call_start n c es)) (length-append (passed_variables c.parameters es) c.declared)

dropped_takes : (n : ℕ) (result : Option WordType) (value : Option TermTree)
    → Takes n (dropped_block n result value) (length (dropped_variables result))
dropped_takes n None value = record { numbered = tt; counted = refl }
dropped_takes n (Some word) value = takes_one _ refl refl

-- Statements.

module _ (known : Callables) (counted : AllKnown IsCounted known) where
  pub right_takes : (names : Numbers) (n : ℕ) (r : RightTree)
      → Takes n (right_block known names n r) (length (right_variables known r))
  right_takes names n (computed e) = record { numbered = tt; counted = refl }
  right_takes names n (called c) =
      takes_skip (takes_chain (call_takes names c.arguments n (known c.name) (counted c.name))
      (takes_one flat.skip tt refl) (omega arith))

  element_takes : (names : Numbers) (n : ℕ) (bracket : Place) (text : List ℕ) (index : ExprTree) (r : RightTree)
      → Takes n (element_block known names n bracket text index r) (length (element_variables known r))
  element_takes names n bracket text index (computed e) = takes_one _ tt refl
  element_takes names n bracket text index (called c) =
      let vars = call_variables (known c.name) c.arguments in
      let whole = takes_chain {whole = length vars}
      (call_takes names c.arguments (n + 1) (known c.name) (counted c.name))
      (takes_one (flat.put bracket (number_of names text) (size_of names text) (flat.variable n)
      (value_given (call_value (known c.name) names (n + 1) c.arguments))) tt refl) (omega arith) in
      record { numbered = (refl, whole.numbered); counted = omega (arith, whole.counted) }

  mutual
    pub statement_takes : (names : Numbers) (n : ℕ) (s : StatementTree)
        → Takes n (statement known names n s) (numbers_taken known s)
    statement_takes names n (declaration place label mutable kind text value) = takes_chain (right_takes names n value)
        (takes_one _ refl refl) (length-append (right_variables known value) _)
    statement_takes names n (array place label mutable kind size text values) = takes_one _ refl refl
    statement_takes names n (assignment place target text value) =
        takes_chain (right_takes names n value) (takes_one _ tt refl) (omega arith)
    statement_takes names n (element_assignment place bracket target text index value) =
        element_takes names n bracket text index value
    statement_takes names n (call c) =
        let o = known c.name in
        let vars = call_variables o c.arguments in
        takes_skip (takes_chain (call_takes names c.arguments n o (counted c.name))
        (dropped_takes (n + length vars) (call_result o) (call_value o names n c.arguments)) (length-append vars _))
    statement_takes names n (conditional place condition accepted otherwise) =
        let a = block_takes names n accepted in
        let b = block_takes names (n + numbers_taken_all known accepted) otherwise in
        record {
          numbered = ((a.numbered, rw a.counted b.numbered), tt);
          counted = omega (
            arith,
            length-append (declared_in_all known accepted) (declared_in_all known otherwise),
            a.counted,
            b.counted,
          );
        }
    statement_takes names n (loop place counter text low high body) =
        let b = block_takes (naming names text n (word_as counter_type false)) (n + 1) body in
        record { numbered = ((refl, b.numbered), tt); counted = omega (arith, b.counted) }

    pub block_takes : (names : Numbers) (n : ℕ) (b : BlockTree)
        → Takes n (block known names n b) (numbers_taken_all known b)
    block_takes names n nothing = record { numbered = tt; counted = refl }
    block_takes names n (first s rest) = takes_chain (statement_takes names n s)
        (block_takes (names_after known names n s) (n + numbers_taken known s) rest)
        (length-append (declared_in known s) (declared_in_all known rest))

-- of procedures that may be called
pub all_counted : (before : List ProcedureTree) → AllKnown IsCounted (callables before)
all_counted before =
    known-true IsCounted callable (λ known counted p names n. block_takes known counted names n p.body) before

-- Names, their types and their numbers still go together behind a right side, a statement and a block.
module _ (earlier : List ProcedureTree) where
  abbrev known : Callables
  known = callables earlier

  pub linked_right : {scope : Scope} {names : Numbers} {types : Types} {n : ℕ} → Linked scope names types n
      → (r : RightTree)
      → Linked scope names (types_after_all types (right_block known names n r)) (right_end known n r)
  linked_right {names = names} {n = n} linked r = passed_over (right_takes known (all_counted earlier) names n r) linked

  pub linked_after : {scope : Scope} {control : Label} {s : StatementTree} → IsWellTyped earlier scope control s
      → {names : Numbers} {types : Types} {n : ℕ} → Linked scope names types n
      → Linked (scope_after scope s) (names_after known names n s) (types_after_all types (statement known names n s))
      (n + numbers_taken known s)
  linked_after (declares {place = place} {label = label} {mutable = mutable} {kind = kind} {text = text} {right = r} new
      has suit flow) linked =
      let own = word_as (labelled kind label) mutable in
      rw chain-types (later (omega (arith, length-append (right_variables known r) (own ∷ [])))
      (linked_declared (linked_right linked r) place text own new))
  linked_after (declares_array {place = place} {label = label} {mutable = mutable} {kind = kind} {size = size}
      {text = text} new all count flow) linked =
      linked_declared linked place text (array_as (labelled kind label) mutable size) new
  linked_after {s = s} other {names = names} {n = n} linked =
      passed_over (statement_takes known (all_counted earlier) names n s) linked

  pub linked_after_all : {scope : Scope} {control : Label} {b : BlockTree} → AreWellTyped earlier scope control b
      → {names : Numbers} {types : Types} {n : ℕ} → Linked scope names types n
      → Linked (scope_after_all scope b) (names_after_all known names n b)
      (types_after_all types (block known names n b)) (n + numbers_taken_all known b)
  linked_after_all no_statement linked = later (omega arith) linked
  linked_after_all (one_more {statement = s} {rest = rest} here there) linked =
      rw chain-types (later (omega (arith, length-append (declared_in known s) (declared_in_all known rest)))
      (linked_after_all there (linked_after here linked)))
