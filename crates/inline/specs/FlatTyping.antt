-- Types of numbered variables: what is known of a well-typed body once its names are gone.
use Rattle.std.specs.Prelude.{◌≡◌, ℕ, Bool, true, false, ◌^◌, ◌<◌, ◌==◌, ◌+◌, List, [], ◌∷◌, length, map, take}
use Rattle.std.specs.Prelude.{Option, None, Some, if◌then◌else◌, slice_get}
use Rattle.inline.specs.declared.flat.FlatVariable.{FlatVariable}
pub use Rattle.inline.specs.Flat.{counter_type}
use Rattle.inline.specs.Flat.{TermTree, number, truth, variable, prefix, binary, rotate, convert, select, element}
use Rattle.inline.specs.Flat.{FlatTree, declare, array, assign, put, hold, skip, branch, loop, FlatBlock, nothing}
use Rattle.inline.specs.Flat.{first, FlatProgram, word_as, array_as, declaration_of}
use Rattle.inline.specs.Below.{BinaryOperator, bits_of, Boolean, IsNumberKind, joined, Kind, Label, labelled, Makes}
use Rattle.inline.specs.Below.{operation_of, Param, Place, PrefixOperator, Profile, Public, Secret, Takes, Uint32}
use Rattle.inline.specs.Below.{Width, width_of, WordType}

-- the observer, and what the variables in scope are declared as
pub record Types : Type 0 where
  pub profile : Profile
  pub at : ℕ → Option FlatVariable

abbrev pub with_type : Types → ℕ → FlatVariable → Types
with_type types x declaration = record {
  profile = types.profile;
  at = λ y. if y == x then Some declaration else types.at y;
}

-- all variables of a list, each at its number
abbrev pub types_of : Profile → List FlatVariable → Types
types_of profile declared = record { profile = profile; at = λ x. slice_get declared x }

-- an expression of this type, by rules of inference
pub data TermHasType (types : Types) : TermTree → WordType → Type 0 where
  of_number : {value : ℕ} {kind : Kind}
      → value < 2 ^ bits_of kind
      → TermHasType types (number value kind) (labelled kind Public)
  of_truth : {value : Bool}
      → TermHasType types (truth value) (labelled Boolean Public)
  of_variable : {x : ℕ} {word : WordType} {mutable : Bool}
      → types.at x ≡ Some (word_as word mutable)
      → TermHasType types (variable x) word
  of_prefix : {operator : PrefixOperator} {width : Width} {operand : TermTree} {kind : Kind} {label : Label}
      → TermHasType types operand (labelled kind label)
      → Takes operator kind
      → width ≡ width_of kind
      → TermHasType types (prefix operator width operand) (labelled kind label)
  of_binary : {place : Place} {operator : BinaryOperator} {width : Width} {left right : TermTree}
      {one other whole : WordType}
      → TermHasType types left one
      → TermHasType types right other
      → Makes types.profile (operation_of operator) one other whole
      → width ≡ width_of one.kind
      → TermHasType types (binary place operator width left right) whole
  of_rotation : {width : Width} {operand : TermTree} {amount : ℕ} {kind : Kind} {label : Label}
      → TermHasType types operand (labelled kind label)
      → IsNumberKind kind
      → 0 < amount
      → amount < bits_of kind
      → width ≡ width_of kind
      → TermHasType types (rotate width operand amount) (labelled kind label)
  of_conversion : {kind other : Kind} {operand : TermTree} {label : Label}
      → TermHasType types operand (labelled other label)
      → IsNumberKind kind
      → TermHasType types (convert kind operand) (labelled kind label)
  of_selection : {condition accepted otherwise : TermTree} {kind : Kind} {l m n : Label}
      → TermHasType types condition (labelled Boolean l)
      → TermHasType types accepted (labelled kind m)
      → TermHasType types otherwise (labelled kind n)
      → TermHasType types (select condition accepted otherwise) (labelled kind (joined l (joined m n)))
  of_element : {place : Place} {x size : ℕ} {index : TermTree} {word : WordType} {mutable : Bool}
      → types.at x ≡ Some (array_as word mutable size)
      → TermHasType types index (labelled Uint32 Public)
      → TermHasType types (element place x size index) word

-- an expression that may be put where this type is wanted: of the same kind, and no secret where it is public
pub record TermSuits (types : Types) (wanted : WordType) (term : TermTree) : Type 0 where
  pub word : WordType
  pub has_type : TermHasType types term word
  pub kind : word.kind ≡ wanted.kind
  pub label : wanted.label ≡ Public → word.label ≡ Public

-- so does each of these
abbrev pub AllSuit : Types → WordType → List TermTree → Type 0
AllSuit types wanted [] = Unit {0}
AllSuit types wanted (e ∷ es) = TermSuits types wanted e × AllSuit types wanted es

-- no first values, or one for each of so many elements
abbrev pub HasCount : ℕ → List TermTree → Type 0
HasCount size [] = Unit {0}
HasCount size (e ∷ es) = length (e ∷ es) ≡ size

-- the types after a statement: what an arm or a loop declares is its own
abbrev pub types_after : Types → FlatTree → Types
types_after types (declare x word mutable value) = with_type types x (word_as word mutable)
types_after types (array x word mutable size values) = with_type types x (array_as word mutable size)
types_after types (assign x value) = types
types_after types (put place x size index value) = types
types_after types (hold x place size index) = with_type types x (word_as counter_type false)
types_after types skip = types
types_after types (branch label condition accepted otherwise) = types
types_after types (loop x low high body) = types

-- the types after some statements
abbrev pub types_after_all : Types → FlatBlock → Types
types_after_all types nothing = types
types_after_all types (first statement rest) = types_after_all (types_after types statement) rest

-- a variable that may be assigned to under the control label, and a value for it
pub record IsAssigned (types : Types) (control : Label) (x : ℕ) (value : TermTree) : Type 0 where
  pub word : WordType
  pub known : types.at x ≡ Some (word_as word true)
  pub suits : TermSuits types word value
  pub hidden : control ≡ Secret → word.label ≡ Secret

-- an array whose elements may be assigned to under the control label, an index, and a value for the element
pub record IsElementAssigned (types : Types) (control : Label) (x size : ℕ) (index value : TermTree) : Type 0 where
  pub word : WordType
  pub known : types.at x ≡ Some (array_as word true size)
  pub index_type : TermHasType types index (labelled Uint32 Public)
  pub suits : TermSuits types word value
  pub hidden : control ≡ Secret → word.label ≡ Secret

-- a variable that is new where it is declared, and is so declared in the list of all
pub record IsNew (declared : List FlatVariable) (types : Types) (x : ℕ) (declaration : FlatVariable) : Type 0 where
  pub new : types.at x ≡ None
  pub listed : slice_get declared x ≡ Some declaration

abbrev mutual
  -- a well-typed statement under a control label, where this is the list of all variables
  pub IsTyped : List FlatVariable → Types → Label → FlatTree → Type 0
  IsTyped declared types control (declare x word mutable value) = IsNew declared types x (word_as word mutable)
      × TermSuits types word value
  IsTyped declared types control (array x word mutable size values) =
      IsNew declared types x (array_as word mutable size) × AllSuit types word values × HasCount size values
  IsTyped declared types control (assign x value) = IsAssigned types control x value
  IsTyped declared types control (put place x size index value) = IsElementAssigned types control x size index value
  IsTyped declared types control (hold x place size index) =
      IsNew declared types x (word_as counter_type false) × TermHasType types index counter_type
  IsTyped declared types control skip = Unit {0}
  IsTyped declared types control (branch label condition accepted otherwise) =
      TermHasType types condition (labelled Boolean label)
      × AreTyped declared types (joined label control) accepted
      × AreTyped declared types (joined label control) otherwise
  IsTyped declared types control (loop x low high body) =
      TermHasType types low counter_type × TermHasType types high counter_type
      × IsNew declared types x (word_as counter_type false)
      × AreTyped declared (with_type types x (word_as counter_type false)) control body

  pub AreTyped : List FlatVariable → Types → Label → FlatBlock → Type 0
  AreTyped declared types control nothing = Unit {0}
  AreTyped declared types control (first statement rest) =
      IsTyped declared types control statement × AreTyped declared (types_after types statement) control rest

abbrev mutual
  -- how many variables a statement declares
  pub declarations_in : FlatTree → ℕ
  declarations_in (declare x word mutable value) = 1
  declarations_in (array x word mutable size values) = 1
  declarations_in (assign x value) = 0
  declarations_in (put place x size index value) = 0
  declarations_in (hold x place size index) = 1
  declarations_in skip = 0
  declarations_in (branch label condition accepted otherwise) =
      declarations_in_all accepted + declarations_in_all otherwise
  declarations_in (loop x low high body) = 1 + declarations_in_all body

  pub declarations_in_all : FlatBlock → ℕ
  declarations_in_all nothing = 0
  declarations_in_all (first statement rest) = declarations_in statement + declarations_in_all rest

abbrev mutual
  -- the variables that a statement declares have the numbers from n on, in their order
  pub IsNumbered : ℕ → FlatTree → Type 0
  IsNumbered n (declare x word mutable value) = x ≡ n
  IsNumbered n (array x word mutable size values) = x ≡ n
  IsNumbered n (assign x value) = Unit {0}
  IsNumbered n (put place x size index value) = Unit {0}
  IsNumbered n (hold x place size index) = x ≡ n
  IsNumbered n skip = Unit {0}
  IsNumbered n (branch label condition accepted otherwise) =
      AreNumbered n accepted × AreNumbered (n + declarations_in_all accepted) otherwise
  IsNumbered n (loop x low high body) = (x ≡ n) × AreNumbered (n + 1) body

  pub AreNumbered : ℕ → FlatBlock → Type 0
  AreNumbered n nothing = Unit {0}
  AreNumbered n (first statement rest) = IsNumbered n statement × AreNumbered (n + declarations_in statement) rest

-- the parameters' types
abbrev pub parameter_types : Profile → List Param → Types
parameter_types profile parameters = types_of profile (map declaration_of parameters)

-- a value stands exactly where there is a result, and suits its type
abbrev pub IsResult : Types → Option WordType → Option TermTree → Type 0
IsResult types None None = Unit {0}
IsResult types None (Some value) = ⊥
IsResult types (Some word) None = ⊥
IsResult types (Some word) (Some value) = TermSuits types word value

-- the types where the body has ended
abbrev pub end_types : FlatProgram → Types
end_types p = types_after_all (parameter_types p.profile p.parameters) p.body

-- a well-typed program
pub record IsTypedFlat (p : FlatProgram) : Type 0 where
  -- the parameters are the first variables
  pub parameters : take (length p.parameters) p.declared ≡ map declaration_of p.parameters
  -- and what the body declares comes behind them
  pub numbered : AreNumbered (length p.parameters) p.body
  pub body : AreTyped p.declared (parameter_types p.profile p.parameters) Public p.body
  pub result : IsResult (end_types p) p.returned p.value
