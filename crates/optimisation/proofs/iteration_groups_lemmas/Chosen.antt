-- A loop that is grouped is one between two numbers, of at least one iteration; its body has no loop, and does not set
-- the counter.
use Rattle.std.proofs.Common.{◌≡◌, ℕ, ◌-◌, ◌<◌, ◌^◌, Bool, true, false, if◌then◌else◌, [], Option, None, Some, refl}
use Rattle.std.proofs.Common.{ap, arith, option_and_then, subst}
use Rattle.std.specs.Prelude.{nat_le}
use Rattle.std.proofs.lemmas.Bool.{and_parts, leb-true}
use Rattle.std.proofs.lemmas.Option.{cond_some, none-some, option_and_then_some, same_Some}
use Rattle.language.specs.declared.signature.Kind.TheVariants.{Uint16, Uint8}
use Rattle.optimisation.specs.Below.{binary, bits_of, Boolean, convert, element, Kind, number, of_number, prefix}
use Rattle.optimisation.specs.Below.{rotate, select, StraightBlock, TermHasType, TermTree, truth, Types, Uint32, variable}
use Rattle.optimisation.specs.Below.{WordType}
use Rattle.optimisation.specs.declared.constants.terms.CounterRange.{CounterRange}
use Rattle.optimisation.specs.iteration_groups.private.Choice.{are_plain, grouped_range, is_groupable, is_short}
use Rattle.optimisation.specs.iteration_groups.private.Choice.{least_iterations, number_in, range_between}

pub record IsGrouped (x : ℕ) (low high : TermTree) (body : StraightBlock) (range : CounterRange) : Type 0 where
  pub first : number_in low ≡ Some range.low
  pub behind : number_in high ≡ Some range.high
  pub some : range.low < range.high
  pub plain : are_plain x body ≡ true

some_where : {A : Type 0} (b : Bool) (o : Option A) (a : A) → (if b then o else None) ≡ Some a
    → (b ≡ true) × (o ≡ Some a)
some_where true o a is = (refl, is)
some_where false o a is = absurd (none-some a is)

pub is_grouped : (x : ℕ) (low high : TermTree) (body : StraightBlock) (range : CounterRange)
    → grouped_range [] x low high body ≡ Some range → IsGrouped x low high body range
is_grouped x low high body range is =
    let both = λ (a : ℕ). option_and_then (range_between a) (number_in high) in
    let chosen = some_where (is_groupable [] x body) (option_and_then both (number_in low)) range is in
    option_and_then_some both (number_in low) range chosen.1 (λ a low_is from.
    option_and_then_some (range_between a) (number_in high) range from (λ b high_is between.
    let parts = cond_some (nat_le least_iterations (b - a)) (record { low = a; high = b }) range between in
    let first = ap (λ (r : CounterRange). r.low) parts.1 in
    let last = ap (λ (r : CounterRange). r.high) parts.1 in
    record {
      first = rw (← first) low_is;
      behind = rw (← last) high_is;
      some = omega (arith, first, last, leb-true least_iterations (b - a) parts.0);
      plain = (and_parts (are_plain x body) (is_short [] x body) chosen.0).0;
    }))

-- an expression that is a number
pub is_number : (e : TermTree) (a : ℕ) → number_in e ≡ Some a → (kind : Kind) × (e ≡ number a kind)
is_number (number value kind) a is = (kind, ap (λ n. number n kind) (same_Some value a is))
is_number (truth value) a is = absurd (none-some a is)
is_number (variable x) a is = absurd (none-some a is)
is_number (prefix operator width operand) a is = absurd (none-some a is)
is_number (binary place operator width left right) a is = absurd (none-some a is)
is_number (rotate width operand amount) a is = absurd (none-some a is)
is_number (convert kind operand) a is = absurd (none-some a is)
is_number (select condition accepted otherwise) a is = absurd (none-some a is)
is_number (element place x size index) a is = absurd (none-some a is)

within_kind : (kind : Kind) (a : ℕ) → a < 2 ^ bits_of kind → a < 2 ^ 32
within_kind Boolean a below = omega (arith, below)
within_kind Uint8 a below = omega (arith, below)
within_kind Uint16 a below = omega (arith, below)
within_kind Uint32 a below = below

number_below : {types : Types} {word : WordType} {a : ℕ} {kind : Kind} → TermHasType types (number a kind) word
    → a < 2 ^ 32
number_below {a = a} {kind = kind} (of_number below) = within_kind kind a below

-- and has a type is a word
pub word_below : {types : Types} {word : WordType} (e : TermTree) (a : ℕ) (kind : Kind) → e ≡ number a kind
    → TermHasType types e word → a < 2 ^ 32
word_below {types} {word} e a kind is has = number_below (subst (λ f. TermHasType types f word) is has)
