-- The body of a procedure within the limits on size is within them too, with the bodies that it calls in it.
use Rattle.std.proofs.Common.{◌≡◌, ℕ, ◌+◌, ◌*◌, ◌≤◌, false, List, [], ◌∷◌, length}
use Rattle.std.proofs.Common.{map, Option, Some, refl, arith}
use Rattle.std.specs.List.{AllByRecursion}
use Rattle.inline.specs.Flat.{elements_by, word_as, counter_type}
use Rattle.inline.specs.FlatSize as flat
use Rattle.inline.specs.FlatSize.{term_nodes, body_nodes, words_by, declared_words, IsSized}
use Rattle.inline.specs.Numbering.{Numbers, Callables, callables, call_variables, call_result, call_value}
use Rattle.inline.specs.Numbering.{right_block, right_variables, right, declared_in, declared_in_all, numbers_taken}
use Rattle.inline.specs.Numbering.{numbers_taken_all, naming, names_after, statement, block, param_of}
use Rattle.inline.specs.Numbering.{parameter_names, return_names, flattened}
use Rattle.inline.specs.Below.{AreWellTyped, assigns, assigns_element, block_nodes, block_words, BlockTree, calls}
use Rattle.inline.specs.Below.{chooses, declares, declares_array, element_assignment, exported, ExprTree, Extents}
use Rattle.inline.specs.Below.{extents_of, Form, HasForm, HasLength, held_words, IsGrammatical, IsProcedure}
use Rattle.inline.specs.Below.{IsWellTyped, Label, no_statement, nothing_returned, of_call, of_value, one_more, Param}
use Rattle.inline.specs.Below.{parameter_words, ParameterTree, Place, ProcedureTree, Profile, ProgramTree, repeats}
use Rattle.inline.specs.Below.{Returns, ReturnTree, right_nodes, right_words, RightTree, Scope, SingleWord}
use Rattle.inline.specs.Below.{size_violations, statement_nodes, statement_words, StatementTree, value_returned}
use Rattle.inline.specs.Below.{violations, with_procedure, Word, WordType, written}
use Rattle.language.specs.WellTyped.{RightHasType}
use Rattle.inline.proofs.Below.{few_of}
use Rattle.inline.proofs.CallSizes.{same_nodes, same_all, same_result, GoTogether, value_there, dropped_nodes}
use Rattle.inline.proofs.CallSizes.{dropped_words, words-append, SizedBody, call_sized}
use Rattle.inline.proofs.ChainTypes.{chain-nodes}
use Rattle.inline.proofs.Parameters.{own, all_own}
use Rattle.inline.proofs.Procedures.{Stand, IsAt, IsWithin, own_typing, earlier_within, callable_after}
use Rattle.inline.proofs.Procedures.{callable_declared, callable_parameters}

-- Statements.

module _ (earlier : List ProcedureTree) (at : Scope) (stand : Stand SizedBody earlier at) where
  abbrev known : Callables
  known = callables earlier

  abbrev extents : Extents
  extents = extents_of earlier

  -- a right side is as large as it was, and takes a word more for every three nodes at most
  record RightSized (names : Numbers) (n : ℕ) (r : RightTree) : Type 0 where
    pub nodes : body_nodes (right_block known names n r) + term_nodes (right known names n r) ≡ right_nodes extents r
    pub words : 3 * declared_words (right_variables known r) ≤ 3 * right_words extents r + right_nodes extents r

  right_sized : {scope : Scope} {control : Label} {r : RightTree} {given : WordType}
      → RightHasType earlier scope control r (Word given) → IsWithin earlier at scope → (names : Numbers) (n : ℕ)
      → RightSized names n r
  right_sized (of_value {e = e} has) inside names n =
      record { nodes = omega (arith, same_nodes names e); words = omega arith }
  right_sized {given = given} (of_call {c = c} is) inside names n =
      let f = call_sized earlier at stand is inside names n in
      let value = value_there (call_result (known c.name)) (call_value (known c.name) names n c.arguments) given
      f.gives f.returns in
      record { nodes = rw chain-nodes (omega (arith, value)); words = omega arith }

  -- so is a statement
  pub record StatementSized (names : Numbers) (n : ℕ) (s : StatementTree) : Type 0 where
    pub nodes : body_nodes (statement known names n s) ≡ statement_nodes extents s
    pub words : 3 * declared_words (declared_in known s) ≤ 3 * statement_words extents s + statement_nodes extents s

  pub record BlockSized (names : Numbers) (n : ℕ) (b : BlockTree) : Type 0 where
    pub nodes : body_nodes (block known names n b) ≡ block_nodes extents b
    pub words : 3 * declared_words (declared_in_all known b) ≤ 3 * block_words extents b + block_nodes extents b

  element_sized : {scope : Scope} {control : Label} {r : RightTree} {given : WordType}
      → RightHasType earlier scope control r (Word given) → IsWithin earlier at scope
      → (place bracket target : Place) (text : List ℕ) (index : ExprTree) (names : Numbers) (n : ℕ)
      → StatementSized names n (element_assignment place bracket target text index r)
  element_sized (of_value {e = e} has) inside place bracket target text index names n =
      record { nodes = omega (arith, same_nodes names index, same_nodes names e); words = omega arith }
  element_sized {given = given} (of_call {c = c} is) inside place bracket target text index names n =
      let f = call_sized earlier at stand is inside names (n + 1) in
      let value = value_there (call_result (known c.name)) (call_value (known c.name) names (n + 1) c.arguments) given
      f.gives f.returns in
      record { nodes = rw chain-nodes (omega (arith, value, same_nodes names index)); words = omega arith }

  mutual
    pub statement_sized : {scope : Scope} {control : Label} {s : StatementTree} → IsWellTyped earlier scope control s
        → IsWithin earlier at scope → (names : Numbers) (n : ℕ) → StatementSized names n s
    statement_sized (declares new has suit flow) inside names n =
        let f = right_sized has inside names n in
        record { nodes = rw chain-nodes (omega arith); words = rw words-append (omega arith) }
    statement_sized (declares_array {values = values} new suit count flow) inside names n =
        record { nodes = omega (arith, same_all names (written values)); words = omega arith }
    statement_sized (assigns is has suit flow) inside names n =
        let f = right_sized has inside names n in
        record { nodes = rw chain-nodes (omega arith); words = omega arith }
    statement_sized (assigns_element is has value suit flow) inside names n =
        element_sized value inside _ _ _ _ _ names n
    statement_sized (calls {c = c} is) inside names n =
        let f = call_sized earlier at stand is inside names n in
        let o = known c.name in
        let vars = call_variables o c.arguments in
        let value = call_value o names n c.arguments in
        record {
          nodes = rw (chain-nodes, dropped_nodes (n + length vars) (call_result o) value f.returns) (omega arith);
          words = rw words-append (omega (arith, dropped_words (call_result o) value f.returns));
        }
    statement_sized (chooses {condition = condition} {accepted = accepted} has one other) inside names n =
        let a = block_sized one inside names n in
        let b = block_sized other inside names (n + numbers_taken_all known accepted) in
        record { nodes = omega (arith, same_nodes names condition); words = rw words-append (omega arith) }
    statement_sized (repeats {scope = scope} {counter = counter} {text = text} {low = low} {high = high} {body = body}
        has is new all) inside names n =
        let b = block_sized all (callable_declared earlier (IsAt at) scope counter text _ inside)
        (naming names text n (word_as counter_type false)) (n + 1) in
        record { nodes = omega (arith, same_nodes names low, same_nodes names high); words = omega arith }

    pub block_sized : {scope : Scope} {control : Label} {b : BlockTree} → AreWellTyped earlier scope control b
        → IsWithin earlier at scope → (names : Numbers) (n : ℕ) → BlockSized names n b
    block_sized no_statement inside names n = record { nodes = refl; words = omega arith }
    block_sized (one_more {statement = s} here there) inside names n =
        let a = statement_sized here inside names n in
        let b = block_sized there (callable_after earlier (IsAt at) here inside) (names_after known names n s)
        (n + numbers_taken known s) in
        record { nodes = rw chain-nodes (omega arith); words = rw words-append (omega arith) }

-- Procedures.

return_together : {scope : Scope} {result : Option WordType} {returned : Option ReturnTree}
    → Returns scope result returned → GoTogether result returned
return_together nothing_returned = tt
return_together (value_returned has suit) = tt

sized_one : (before : List ProcedureTree) (at : Scope) (p : ProcedureTree) → Stand SizedBody before at
    → IsProcedure before at p → SizedBody before at p
sized_one before at p stand typed =
    let inside = callable_parameters before (IsAt at) p.parameters (with_procedure at (length before) p)
    (earlier_within SizedBody before at stand p typed.is_new) in
    record {
      nodes = λ names n. (block_sized before at stand typed.body inside names n).nodes;
      words = (block_sized before at stand typed.body inside [] 0).words;
      returns = return_together typed.returns;
    }

-- Parameters.

parameter_takes : (p : ParameterTree) (form : Form)
    → words_by (own p).word (elements_by form p.length) ≡ held_words form p.kind p.length
parameter_takes p SingleWord = refl
parameter_takes p form = refl

parameters_take : (ps : List ParameterTree) → declared_words (all_own ps) ≡ parameter_words ps
parameters_take [] = refl
parameters_take (p ∷ ps) = omega (arith, parameter_takes p p.form, parameters_take ps)

has_length : (form : Form) (length : ℕ) → HasLength form length → flat.HasLength form length
has_length SingleWord length is = is
has_length form length is = (is.some, is.few)

have_lengths : (ps : List ParameterTree) → AllByRecursion HasForm ps
    → AllByRecursion (λ (p : Param). flat.HasLength p.form p.length) (map param_of ps)
have_lengths [] are = tt
have_lengths (p ∷ ps) are = (has_length p.form p.length are.0, have_lengths ps are.1)

-- The program.

pub flat_is_sized : (profile : Profile) (program : ProgramTree) (before : List ProcedureTree) (p : ProcedureTree)
    → length (violations profile program) ≡ 0 → exported [] program.procedures ≡ Some (before, p)
    → AllByRecursion IsGrammatical before → IsGrammatical p
    → length (size_violations before p) ≡ 0 → IsSized (flattened profile before p)
flat_is_sized profile program before p h is earlier plain small =
    let e = own_typing SizedBody IsGrammatical (λ before at p stand typed plain. sized_one before at p stand typed)
    profile program before p h is earlier in
    let body = sized_one before e.scope p e.stand e.typed in
    let few = few_of (extents_of before) p small in
    let nodes = body.nodes (parameter_names p) (length p.parameters) in
    let value = same_result (return_names (callables before) p) p.returned in
    let sum = words-append (all_own p.parameters) (declared_in_all (callables before) p.body) in
    let taken = parameters_take p.parameters in
    record {
      lengths = have_lengths p.parameters plain.parameters;
      parameters = omega (arith, taken);
      declared = omega (arith, sum, taken);
      counted = omega (arith, nodes, value);
      nodes = few.nodes;
    }
