-- Expressions that have a home: its register has their value, and nothing is shown for it.
use Rattle.std.proofs.Common.{◌≡◌, ℕ, ◌^◌, ◌<◌, true, [], length, Some, refl, sym, ◌∙◌, arith}
use Rattle.std.proofs.lemmas.Option.{none-some, slice_get_within}
use Rattle.expression_code.proofs.Below.{Allocation, convert, converted, TermHasType, home_of}
use Rattle.expression_code.proofs.Below.{home_of_term, keeps_words, Kind, of_conversion, of_variable}
use Rattle.expression_code.proofs.Below.{path_in, State, StraightState, TermTree, types_of, value_in}
use Rattle.expression_code.proofs.Below.{Values, width_of, word_as, WordType}
use Rattle.expression_code.proofs.Frame.{Setting}
use Rattle.expression_code.proofs.Values.{Ready, value_word}
use Rattle.expression_code.proofs.WorkRegisters.{when_some}
use Rattle.expression_code.specs.Below.{Uint32}

-- a conversion that keeps words keeps each
pub word_kept : (a : Allocation) (kind : Kind) → keeps_words a kind ≡ true → (v : ℕ) → v < 2 ^ 32
    → converted (width_of kind) v ≡ v
word_kept a Uint32 keeps v below = omega arith
word_kept a kind keeps v below = grind (arith, keeps, below)

-- such a conversion of a well-typed expression has its value
pub conversion_kept : (z : Setting) {operand : TermTree} {word : WordType} (kind : Kind)
    → keeps_words z.allocation kind ≡ true → TermHasType (types_of z.code.profile z.declared) operand word
    → (env : StraightState) (s : State) → Ready z env s
    → value_in env.variables operand ≡ value_in env.variables (convert kind operand)
conversion_kept z {operand = operand} {word = word} kind keeps has env s ready =
    sym (word_kept z.allocation kind keeps (value_in env.variables operand)
    (value_word z.code.profile z.declared operand word env.variables ready.fits has))

-- such an expression is a variable at home, or is one but for conversions that keep its value
pub record IsAtHome (z : Setting) (e : TermTree) (home : ℕ) : Type 0 where
  pub x : ℕ
  pub declared : x < length z.declared
  pub at : home_of z.allocation.homes x ≡ Some home
  pub quiet : (m : Values) → path_in m e ≡ []
  pub there : (env : StraightState) (s : State) → Ready z env s → s.regs home ≡ value_in env.variables e

pub home_there : (z : Setting) {e : TermTree} {word : WordType}
    → TermHasType (types_of z.code.profile z.declared) e word
    → (home : ℕ) → home_of_term z.allocation e ≡ Some home → IsAtHome z e home
home_there z (of_variable {x = x} {word = word} {mutable = mutable} is) home at = record {
  x = x;
  declared = slice_get_within z.declared x (word_as word mutable) is;
  at = at;
  quiet = λ m. refl;
  there = λ env s ready. ready.homes_there x home (word_as word mutable) is at;
}
home_there z (of_conversion {kind = kind} {operand = operand} has numeric) home at =
    let both = when_some (keeps_words z.allocation kind) (home_of_term z.allocation operand) home at in
    let inner = home_there z has home both.1 in
    record {
      x = inner.x;
      declared = inner.declared;
      at = inner.at;
      quiet = inner.quiet;
      there = λ env s ready. inner.there env s ready ∙ conversion_kept z kind both.0 has env s ready;
    }
home_there z has home at = absurd (none-some home at)
