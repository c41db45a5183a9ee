-- Types of straight code, for an observer. All variables are known everywhere; what branches, loops, indices and
-- divisions go by is public, and so is what is multiplied where the observer sees that.
use Rattle.std.specs.Prelude.{◌≡◌, ℕ, ◌+◌, ◌<◌, ◌==◌, if◌then◌else◌, Bool, false, List, length, map}
use Rattle.std.specs.Prelude.{take as first_of, Option, None, Some, slice_get}
use Rattle.branch_removal.specs.Straight.{StraightTree, set, array, put, take, branch, repeats}
use Rattle.branch_removal.specs.Straight.{StraightBlock, nothing, first, StraightProgram}
use Rattle.branch_removal.specs.Below.{AllSuit, array_as, Boolean, counter_type, declaration_of, FlatVariable, HasCount}
use Rattle.branch_removal.specs.Below.{TermHasType, IsResult, Label, labelled, Profile, Public, Secret, TermSuits}
use Rattle.branch_removal.specs.Below.{TermTree, Types, types_of, word_as, WordType}

-- a word, and a value for it
pub record IsSet (profile : Profile) (declared : List FlatVariable) (x : ℕ) (value : TermTree) : Type 0 where
  pub word : WordType
  pub mutable : Bool
  pub known : slice_get declared x ≡ Some (word_as word mutable)
  pub suits : TermSuits (types_of profile declared) word value

-- the variables of a list but for one
abbrev pub types_but : Profile → List FlatVariable → ℕ → Types
types_but profile declared x = record { profile = profile; at = λ y. if y == x then None else slice_get declared y }

-- an array of so many elements, and a value for each of them or none, which do not go by what it held before
pub record IsFilled (profile : Profile) (declared : List FlatVariable) (x size : ℕ) (values : List TermTree) :
    Type 0 where
  pub word : WordType
  pub mutable : Bool
  pub known : slice_get declared x ≡ Some (array_as word mutable size)
  pub suit : AllSuit (types_but profile declared x) word values
  pub count : HasCount size values

-- an array of so many elements, a public index, and a value for the element
pub record IsElementSet (profile : Profile) (declared : List FlatVariable) (x size : ℕ) (index value : TermTree) :
    Type 0 where
  pub word : WordType
  pub mutable : Bool
  pub known : slice_get declared x ≡ Some (array_as word mutable size)
  pub index_type : TermHasType (types_of profile declared) index counter_type
  pub suits : TermSuits (types_of profile declared) word value

-- an enclosing control value, where there is one, is among so many
abbrev pub IsAmong : ℕ → Option ℕ → Type 0
IsAmong controls None = Unit {0}
IsAmong controls (Some control) = control < controls

abbrev mutual
  -- a well-typed statement, with so many control values
  pub IsTyped : Profile → List FlatVariable → ℕ → StraightTree → Type 0
  IsTyped profile declared controls (set within x value) = IsAmong controls within × IsSet profile declared x value
  IsTyped profile declared controls (array x size values) = IsFilled profile declared x size values
  IsTyped profile declared controls (put within place x size index value) = IsAmong controls within
      × IsElementSet profile declared x size index value
  IsTyped profile declared controls (take control within condition) =
      (control + 1 < controls) × IsAmong controls within
      × ((label : Label) × TermHasType (types_of profile declared) condition (labelled Boolean label))
  IsTyped profile declared controls (branch condition accepted otherwise) =
      TermHasType (types_of profile declared) condition (labelled Boolean Public)
      × AreTyped profile declared controls accepted × AreTyped profile declared controls otherwise
  IsTyped profile declared controls (repeats x low high body) =
      TermHasType (types_of profile declared) low counter_type × TermHasType
      (types_of profile declared) high counter_type
      × (slice_get declared x ≡ Some (word_as counter_type false)) × AreTyped profile declared controls body

  pub AreTyped : Profile → List FlatVariable → ℕ → StraightBlock → Type 0
  AreTyped profile declared controls nothing = Unit {0}
  AreTyped profile declared controls (first statement rest) = IsTyped profile declared controls statement
      × AreTyped profile declared controls rest

-- a secret variable
abbrev pub IsSecret : List FlatVariable → ℕ → Type 0
IsSecret declared x = (d : FlatVariable) → slice_get declared x ≡ Some d → d.word.label ≡ Secret

-- what is set within a control value is secret
abbrev pub IsSecretWithin : List FlatVariable → Option ℕ → ℕ → Type 0
IsSecretWithin declared None x = Unit {0}
IsSecretWithin declared (Some control) x = IsSecret declared x

abbrev mutual
  -- only what is secret is set within a control value
  pub IsHidden : List FlatVariable → StraightTree → Type 0
  IsHidden declared (set within x value) = IsSecretWithin declared within x
  IsHidden declared (array x size values) = Unit {0}
  IsHidden declared (put within place x size index value) = IsSecretWithin declared within x
  IsHidden declared (take control within condition) = Unit {0}
  IsHidden declared (branch condition accepted otherwise) = AreHidden declared accepted × AreHidden declared otherwise
  IsHidden declared (repeats x low high body) = AreHidden declared body

  pub AreHidden : List FlatVariable → StraightBlock → Type 0
  AreHidden declared nothing = Unit {0}
  AreHidden declared (first statement rest) = IsHidden declared statement × AreHidden declared rest

-- a well-typed program: its parameters are the first variables
pub record IsTypedStraight (p : StraightProgram) : Type 0 where
  pub parameters : first_of (length p.parameters) p.declared ≡ map declaration_of p.parameters
  pub body : AreTyped p.profile p.declared p.controls p.body
  pub hidden : AreHidden p.declared p.body
  pub result : IsResult (types_of p.profile p.declared) p.returned p.value
