-- A right side comes to the same, and changes only what may be changed.
use Rattle.std.proofs.Common.{◌≡◌, ℕ, List, Option, Some, None, refl}
use Rattle.inline.specs.Flat as flat
use Rattle.inline.specs.Flat.{TermTree}
use Rattle.inline.specs.FlatMeaning.{Values, value_in, path_in, after_all, path_along, path_of_result}
use Rattle.inline.specs.Numbering.{Numbers, callables, single, call_block, call_value, call_result, value_given}
use Rattle.inline.specs.Numbering.{right_block, right}
use Rattle.inline.specs.Path.{either, first_fault}
use Rattle.inline.specs.Below.{called, CallTree, expr_faults, IsSmallRight, Label, of_expr, ProcedureTree, result_value}
use Rattle.inline.specs.Below.{Returned, Rights, RightTree, Scope, State, Word, word_given, WordType}
use Rattle.language.specs.Meaning.{of_call}
use Rattle.language.specs.State as state
use Rattle.language.specs.WellTyped as rules
use Rattle.inline.proofs.Called.{ResultAgrees, a_word, Spares, StatementReady}
use Rattle.inline.proofs.CallEnds.{call_means}
use Rattle.inline.proofs.Chains.{after_chain, fault_chain}
use Rattle.inline.proofs.Comes.{Comes, also, either-none}
use Rattle.inline.proofs.Terms.{Shows, word_at, means}

-- the state and the word that a right side gives
pub record IsGiven (names : Numbers) (m : Values) (given : WordType) (value : TermTree) (r : Returned) : Type 0 where
  pub word : word_given r.word ≡ word_at given.kind (value_in m value)
  pub shows : Shows names r.state m

-- a word that is asked for
pub path_given : (m : Values) (value : Option TermTree) → path_of_result m value ≡ path_in m (value_given value)
path_given m None = refl
path_given m (Some value) = refl

pub word_result : (o : Option WordType) (given : WordType) → result_value o ≡ Word given → o ≡ Some given
word_result None given h = absurd cc
word_result (Some word) given h = cc

pub given_word : {m : Values} {given : WordType} {value : Option TermTree} {w : Option state.Word}
    → ResultAgrees m (Some given) value w → word_given w ≡ word_at given.kind (value_in m (value_given value))
given_word (a_word same) = same

module _ {earlier : List ProcedureTree} {scope : Scope} {names : Numbers} {n : ℕ}
    (ready : StatementReady earlier scope names n) where
  -- a call that gives a word
  pub call_gives : {control : Label} {c : CallTree} {given : WordType}
      → rules.IsCall earlier scope control c (Word given) → (s : State) (m : Values) → Shows names s m
      → IsSmallRight (called c)
      → (let tree = call_block (callables earlier c.name) names n c.arguments in
      let value = value_given (call_value (callables earlier c.name) names n c.arguments) in
      let end = after_all m tree in
      Comes (Rights earlier s (called c)) (IsGiven names end given value)
      (either (first_fault (path_along m tree)) (first_fault (path_in end value))))
  call_gives {c = c} {given = given} is s m shows small =
      let k = call_means ready is in
      let value = call_value (callables earlier c.name) names n c.arguments in
      let end = after_all m (call_block (callables earlier c.name) names n c.arguments) in
      let result = word_result (call_result (callables earlier c.name)) given k.result in
      rw (← path_given end value)
      (also (k.comes s m shows small)
      (λ r is agrees. (
        r,
        of_call is,
        record { word = given_word (rw result at agrees.word); shows = agrees.shows },
      ))
      (λ at is. of_call is))

  -- what is known of a right side
  pub record RightMeans (value : RightTree) (given : WordType) : Type 0 where
    pub comes : (s : State) (m : Values) → Shows names s m → IsSmallRight value →
        (let tree = right_block (callables earlier) names n value in
        let end = after_all m tree in
        let taken = right (callables earlier) names n value in
        Comes (Rights earlier s value) (IsGiven names end given taken)
        (either (first_fault (path_along m tree)) (first_fault (path_in end taken))))
    pub keeps : (x : ℕ) → Spares names n x → (m : Values)
        → after_all m (right_block (callables earlier) names n value) x ≡ m x

  pub right_means : {control : Label} {value : RightTree} {given : WordType}
      → rules.RightHasType earlier scope control value (Word given) → RightMeans value given
  right_means (rules.of_value has) = record {
    comes = λ s m shows small.
        also ((means ready.linked has small).value s m shows)
        (λ w is same. (record { word = Some w; state = s }, of_expr is, record { word = same; shows = shows }))
        (λ at is. expr_faults is);
    keeps = λ x spares m. refl;
  }
  right_means (rules.of_call {c = c} is) =
      let tree = call_block (callables earlier c.name) names n c.arguments in
      record {
        comes = λ s m shows small.
            rw (
              after_chain tree (single flat.skip) m,
              fault_chain tree (single flat.skip) m,
              either-none (first_fault (path_along m tree)),
            ) (call_gives is s m shows small);
        keeps = λ x spares m. rw after_chain ((call_means ready is).keeps x spares m);
      }
