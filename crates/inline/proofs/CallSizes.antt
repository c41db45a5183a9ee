-- A call has as many nodes once its names are numbers, and what it declares besides takes no more words than a third
-- of them.
use Rattle.std.proofs.Common.{◌≡◌, ℕ, ◌+◌, ◌*◌, ◌≤◌, List, [], ◌∷◌, ◌++◌, length}
use Rattle.std.proofs.Common.{map, Option, None, Some, inl, inr, refl, ap, arith}
use Rattle.std.proofs.lemmas.Bool.{cases_Bool}
use Rattle.inline.specs.declared.flat.FlatVariable.{FlatVariable}
use Rattle.inline.specs.Flat.{TermTree}
use Rattle.inline.specs.Flat as flat
use Rattle.inline.specs.FlatSize.{term_nodes, terms_nodes, body_nodes, value_nodes, declared_words, words_of}
use Rattle.inline.specs.Numbering.{Numbers, Callable, callable, callables, passed, passed_variables, begun}
use Rattle.inline.specs.Numbering.{call_block, call_variables, call_result, call_value, value_given, value_of}
use Rattle.inline.specs.Numbering.{declared_in_all, dropped_block, dropped_variables, names_after_all, block, term}
use Rattle.inline.specs.Below.{ArePassed, binary, block_nodes, block_words, called_nodes, CallTree, convert, element}
use Rattle.inline.specs.Below.{ExprTree, Extent, extent_of, extents_of, is_word, IsCall, Label, name, nodes_in}
use Rattle.inline.specs.Below.{nodes_in_all, nodes_passed, none_passed, number, of_procedure, one_passed, ParameterTree}
use Rattle.inline.specs.Below.{passed_words, prefix, ProcedureTree, result_value, return_nodes, ReturnTree, rotate}
use Rattle.inline.specs.Below.{Scope, select, truth, ValueType, Word, word_arguments, words_of_called, WordType}
use Rattle.inline.proofs.Begun.{own_word}
use Rattle.inline.proofs.ChainTypes.{chain-nodes}
use Rattle.inline.proofs.Below.{known-named}
use Rattle.inline.proofs.Procedures.{Stand, IsWithin}

-- Nodes.

pub same_nodes : (names : Numbers) (e : ExprTree) → term_nodes (term names e) ≡ nodes_in e
same_nodes names (number place value kind) = refl
same_nodes names (truth place value) = refl
same_nodes names (name place text) = refl
same_nodes names (prefix place operator operand) = omega (arith, same_nodes names operand)
same_nodes names (binary place operator one other) = omega (arith, same_nodes names one, same_nodes names other)
same_nodes names (rotate place operand amount) = omega (arith, same_nodes names operand)
same_nodes names (convert place kind operand) = omega (arith, same_nodes names operand)
same_nodes names (select place condition accepted otherwise) =
    omega (arith, same_nodes names condition, same_nodes names accepted, same_nodes names otherwise)
same_nodes names (element place target text index) = omega (arith, same_nodes names index)

pub same_all : (names : Numbers) (es : List ExprTree) → terms_nodes (map (term names) es) ≡ nodes_in_all es
same_all names [] = refl
same_all names (e ∷ es) = omega (arith, same_nodes names e, same_all names es)

pub same_result : (names : Numbers) (r : Option ReturnTree) → value_nodes (value_of names r) ≡ return_nodes r
same_result names None = refl
same_result names (Some r) = omega (arith, same_nodes names r.value)

-- each expression is a node
pub some_nodes : (e : TermTree) → 1 ≤ term_nodes e
some_nodes (flat.number value kind) = omega arith
some_nodes other = omega arith

-- Results.

-- both are there, or none
abbrev pub GoTogether : {A B : Type 0} → Option A → Option B → Type 0
GoTogether None None = Unit {0}
GoTogether None (Some b) = ⊥
GoTogether (Some a) None = ⊥
GoTogether (Some a) (Some b) = Unit {0}

value_together : (names : Numbers) (result : Option WordType) (returned : Option ReturnTree)
    → GoTogether result returned → GoTogether result (value_of names returned)
value_together names None None is = tt
value_together names (Some word) (Some r) is = tt
value_together names result returned is = absurd is

-- a value that is taken
pub value_there : (result : Option WordType) (value : Option TermTree) (given : WordType)
    → Word given ≡ result_value result → GoTogether result value
    → value_nodes value ≡ 1 + term_nodes (value_given value)
value_there None value given is together = absurd cc
value_there (Some word) None given is together = absurd together
value_there (Some word) (Some value) given is together = refl

-- and one that is dropped
pub dropped_nodes : (n : ℕ) (result : Option WordType) (value : Option TermTree) → GoTogether result value
    → body_nodes (dropped_block n result value) ≡ value_nodes value
dropped_nodes n None None together = refl
dropped_nodes n (Some word) (Some value) together = omega arith
dropped_nodes n result value together = absurd together

pub dropped_words : (result : Option WordType) (value : Option TermTree) → GoTogether result value
    → 3 * declared_words (dropped_variables result) ≤ 1 + value_nodes value
dropped_words None None together = omega arith
dropped_words (Some word) (Some value) together = omega (arith, some_nodes value)
dropped_words result value together = absurd together

-- Words.

pub words-append : (xs ys : List FlatVariable) → declared_words (xs ++ ys) ≡ declared_words xs + declared_words ys
words-append [] ys = omega arith
words-append (x ∷ xs) ys = omega (arith, words-append xs ys)

-- a called body within its extent
pub record SizedBody (before : List ProcedureTree) (at : Scope) (p : ProcedureTree) : Type 0 where
  pub nodes : (names : Numbers) (n : ℕ) → body_nodes (block (callables before) names n p.body)
      ≡ block_nodes (extents_of before) p.body
  pub words : 3 * declared_words (declared_in_all (callables before) p.body)
      ≤ 3 * block_words (extents_of before) p.body + block_nodes (extents_of before) p.body
  pub returns : GoTogether p.result p.returned

-- Calls.

passed_nodes : (names : Numbers) (n : ℕ) (ps : List ParameterTree) (es : List ExprTree)
    → body_nodes (passed names n ps es) ≡ nodes_passed (word_arguments ps es)
passed_nodes names n [] es = refl
passed_nodes names n (p ∷ ps) [] = refl
passed_nodes names n (p ∷ ps) (e ∷ es) = elim (cases_Bool (is_word p.form)) [
  | inl word ↦ rw word (omega (arith, passed_nodes names (n + 1) ps es, same_nodes names e))
  | inr array ↦ rw array (passed_nodes names n ps es)
]

passed_take : {scope : Scope} {ps : List ParameterTree} {es : List ExprTree} → ArePassed scope ps es
    → declared_words (passed_variables ps es) ≡ passed_words ps
passed_take none_passed = refl
passed_take (one_passed {p = p} {ps = ps} {arguments = es} is shares are) = elim (cases_Bool (is_word p.form)) [
  | inl word ↦ rw word (omega (arith, passed_take are, ap words_of (own_word p p.form word)))
  | inr array ↦ rw array (omega (arith, passed_take are))
]

-- a call, with the variables that it declares
pub record CallSized (names : Numbers) (n : ℕ) (c : CallTree) (type : ValueType) (o : Option Callable)
    (x : Option Extent) : Type 0 where
  pub nodes : 1 + body_nodes (call_block o names n c.arguments) + value_nodes (call_value o names n c.arguments)
      ≡ called_nodes x c
  pub words : 3 * declared_words (call_variables o c.arguments) + 1 + value_nodes (call_value o names n c.arguments)
      ≤ 3 * words_of_called x + called_nodes x c
  pub gives : type ≡ result_value (call_result o)
  pub returns : GoTogether (call_result o) (call_value o names n c.arguments)

body_sized : (before : List ProcedureTree) (at : Scope) (p : ProcedureTree) → SizedBody before at p
    → (scope : Scope) (names : Numbers) (n : ℕ) (c : CallTree) → ArePassed scope p.parameters c.arguments
    → CallSized names n c (result_value p.result) (Some (callable (callables before) p))
    (Some (extent_of (extents_of before) p))
body_sized before at p body scope names n c are =
    let vars = passed_variables p.parameters c.arguments in
    let own = begun names [] n p.parameters c.arguments in
    let m = n + length vars in
    let end = names_after_all (callables before) own m p.body in
    let value = same_result end p.returned in
    record {
      nodes = rw chain-nodes
          (omega (arith, passed_nodes names n p.parameters c.arguments, body.nodes own m, value));
      words = rw words-append (omega (arith, passed_take are, value));
      gives = refl;
      returns = value_together end p.result p.returned body.returns;
    }

module _ (earlier : List ProcedureTree) (at : Scope) (stand : Stand SizedBody earlier at) where
  pub call_sized : {scope : Scope} {control : Label} {c : CallTree} {type : ValueType}
      → IsCall earlier scope control c type → IsWithin earlier at scope → (names : Numbers) (n : ℕ)
      → CallSized names n c type (callables earlier c.name) (extents_of earlier c.name)
  call_sized {scope = scope} (of_procedure {c = c} {callee = own} {p = p} is get are quiet) within names n =
      let k = stand.callable c.name own p (within c.name own p is get).1 get in
      rw (known-named callable earlier k.before p c.name k.is, known-named extent_of earlier k.before p c.name k.is)
      (body_sized k.before k.at p k.good scope names n c are)
