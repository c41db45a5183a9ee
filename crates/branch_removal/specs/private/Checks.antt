-- Whether straight code is well typed, as a test: the type of each expression, where it has one, and whether each
-- statement sets what its types allow.
use Rattle.std.specs.Prelude.{ℕ, ◌+◌, ◌==◌, ◌&&◌, ◌||◌, Bool, true, false, not, if◌then◌else◌, nat_lt, List, [], ◌∷◌}
use Rattle.std.specs.Prelude.{length, Option, None, Some, slice_get}
use Rattle.std.specs.List.{starts_with}
use Rattle.std.specs.Option.{option_map}
use Rattle.branch_removal.specs.Straight.{StraightTree, set, array, put, take, branch, repeats}
use Rattle.branch_removal.specs.Straight.{StraightBlock, nothing, first}
use Rattle.inline.specs.contracts.flat.FlatVariablePartialEq.TheImpl.{eq-value}
use Rattle.branch_removal.specs.Below.{are_met, binary, binary_type, BinaryOperator, bits, Boolean, convert}
use Rattle.branch_removal.specs.Below.{convert_type, counter_type, element, FlatVariable, is_bool, is_hidden, is_narrow}
use Rattle.branch_removal.specs.Below.{is_number, is_numeric, is_secret, kind_of, Label, number, number_rules, of_one}
use Rattle.branch_removal.specs.Below.{of_three, of_two, prefix, prefix_type, PrefixOperator, Profile, Public, rotate}
use Rattle.branch_removal.specs.Below.{rotate_type, select, select_type, TermTree, truth, Types, unless, value_rules}
use Rattle.branch_removal.specs.Below.{ValueType, variable, Width, width_of, Word, word, word_as, WordType}
use Rattle.language.specs.declared.signature.Kind.{Kind}

-- Variables.

-- the variable of a number, where it is not the one that is left out
abbrev pub variable_at : List FlatVariable → Option ℕ → ℕ → Option FlatVariable
variable_at declared None y = slice_get declared y
variable_at declared (Some x) y = if y == x then None else slice_get declared y

-- all variables of a list, but for one where one is left out
abbrev pub types_beside : Profile → List FlatVariable → Option ℕ → Types
types_beside profile declared without = record { profile = profile; at = λ y. variable_at declared without y }

abbrev pub word_by : WordType → Option ℕ → Option WordType
word_by word None = Some word
word_by word (Some size) = None

-- the type of a variable that is a word
abbrev pub word_in : Option FlatVariable → Option WordType
word_in None = None
word_in (Some d) = word_by d.word d.elements

abbrev pub element_by : ℕ → WordType → Option ℕ → Option WordType
element_by size word None = None
element_by size word (Some n) = if n == size then Some word else None

-- the type of the elements of a variable that is an array of so many
abbrev pub element_in : ℕ → Option FlatVariable → Option WordType
element_in size None = None
element_in size (Some d) = element_by size d.word d.elements

-- Expressions: the language's own type of each operator, at the width of its operand.

abbrev pub is_at : Width → ValueType → Bool
is_at width operand = bits width == bits (width_of (kind_of operand))

-- a public `uint32`
abbrev pub is_counter : ValueType → Bool
is_counter type = is_numeric type && not (is_narrow type) && not (is_hidden type)

abbrev pub prefixed : PrefixOperator → Width → ValueType → Option ValueType
prefixed operator width operand = if is_at width operand then prefix_type operator operand else None

abbrev pub between : Profile → BinaryOperator → Width → ValueType → ValueType → Option ValueType
between profile operator width left right =
    if is_at width left then binary_type profile operator left right else None

abbrev pub rotated : Width → ℕ → ValueType → Option ValueType
rotated width amount operand = if is_at width operand then rotate_type amount operand else None

abbrev pub converted : Kind → ValueType → Option ValueType
converted kind operand = if is_number kind then convert_type kind operand else None

abbrev pub indexed : Option WordType → ValueType → Option ValueType
indexed given index = if is_counter index then option_map Word given else None

-- the type of an expression
abbrev pub type_of : Types → TermTree → Option ValueType
type_of types (number value kind) = unless (number_rules value kind) (word kind Public)
type_of types (truth value) = Some (word Boolean Public)
type_of types (variable x) = option_map Word (word_in (types.at x))
type_of types (prefix operator width operand) = of_one None (prefixed operator width) (type_of types operand)
type_of types (binary place operator width left right) =
    of_two None (between types.profile operator width) (type_of types left) (type_of types right)
type_of types (rotate width operand amount) = of_one None (rotated width amount) (type_of types operand)
type_of types (convert kind operand) = of_one None (converted kind) (type_of types operand)
type_of types (select condition accepted otherwise) =
    of_three None select_type (type_of types condition) (type_of types accepted) (type_of types otherwise)
type_of types (element place x size index) =
    of_one None (indexed (element_in size (types.at x))) (type_of types index)

-- Values.

-- it may be put where this is wanted
abbrev pub suits : WordType → ValueType → Bool
suits wanted value = are_met (value_rules wanted value)

-- a bool, which is public where it has to be
abbrev pub decides : Bool → ValueType → Bool
decides public type = is_bool type && not (public && is_hidden type)

-- an expression has a type that passes a test
abbrev pub passes : (ValueType → Bool) → Types → TermTree → Bool
passes test types e = of_one false test (type_of types e)

abbrev pub all_suit : Types → WordType → List TermTree → Bool
all_suit types wanted [] = true
all_suit types wanted (e ∷ es) = passes (suits wanted) types e && all_suit types wanted es

-- Variables that are set.

abbrev pub same_variable : FlatVariable → FlatVariable → Bool
same_variable d e = eq-value.it d e

-- the counter of a loop
abbrev pub is_loop_counter : Option FlatVariable → Bool
is_loop_counter None = false
is_loop_counter (Some d) = same_variable (word_as counter_type false) d

-- a control value is among so many
abbrev pub is_among : ℕ → Option ℕ → Bool
is_among controls None = true
is_among controls (Some control) = nat_lt control controls

-- under a control value only what is secret is set
abbrev pub may_keep : Option ℕ → Label → Bool
may_keep None label = true
may_keep (Some control) label = is_secret label

-- under a control value, where there is one of so many, a word of this type may be set to this
abbrev pub may_set : Types → ℕ → Option ℕ → Option WordType → TermTree → Bool
may_set types controls within None value = false
may_set types controls within (Some wanted) value =
    is_among controls within && may_keep within wanted.label && passes (suits wanted) types value

-- an array of so many elements of this type may be given these values
abbrev pub may_fill : Types → ℕ → Option WordType → List TermTree → Bool
may_fill types size None values = false
may_fill types size (Some wanted) values =
    ((length values == 0) || (length values == size)) && all_suit types wanted values

-- Statements.

abbrev mutual
  pub is_typed : Profile → List FlatVariable → ℕ → StraightTree → Bool
  is_typed profile declared controls (set within x value) =
      may_set (types_beside profile declared None) controls within (word_in (slice_get declared x)) value
  is_typed profile declared controls (array x size values) =
      may_fill (types_beside profile declared (Some x)) size (element_in size (slice_get declared x)) values
  is_typed profile declared controls (put within place x size index value) =
      passes is_counter (types_beside profile declared None) index
      && may_set (types_beside profile declared None) controls within (element_in size (slice_get declared x)) value
  is_typed profile declared controls (take control within condition) =
      nat_lt (control + 1) controls && is_among controls within
      && passes (decides false) (types_beside profile declared None) condition
  is_typed profile declared controls (branch condition accepted otherwise) =
      passes (decides true) (types_beside profile declared None) condition
      && are_typed profile declared controls accepted && are_typed profile declared controls otherwise
  is_typed profile declared controls (repeats x low high body) =
      is_loop_counter (slice_get declared x) && passes is_counter (types_beside profile declared None) low
      && passes is_counter (types_beside profile declared None) high && are_typed profile declared controls body

  pub are_typed : Profile → List FlatVariable → ℕ → StraightBlock → Bool
  are_typed profile declared controls nothing = true
  are_typed profile declared controls (first statement rest) =
      is_typed profile declared controls statement && are_typed profile declared controls rest

-- Programs.

-- a value stands exactly where there is a result, and suits its type
abbrev pub is_result : Types → Option WordType → Option TermTree → Bool
is_result types None None = true
is_result types None (Some value) = false
is_result types (Some wanted) None = false
is_result types (Some wanted) (Some value) = passes (suits wanted) types value

-- the parameters are the first variables
abbrev pub come_first : List FlatVariable → List FlatVariable → Bool
come_first parameters declared = starts_with same_variable declared parameters
