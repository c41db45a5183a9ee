-- When arguments are within the parameter types.
use Rattle.std.specs.Prelude.{◌≡◌, ℕ, ◌≤◌, List, [], ◌∷◌, length, All}
use Rattle.language.specs.declared.signature.Form.{Form}
use Rattle.language.specs.declared.signature.Form.TheVariants.{SingleWord, FixedArray, MutableArray}
use Rattle.language.specs.declared.signature.Kind.{Kind}
use Rattle.language.specs.declared.signature.Kind.TheVariants.{Boolean, Uint8, Uint16, Uint32}
use Rattle.language.specs.declared.signature.Param.{Param}
use Rattle.language.specs.declared.values.Arg.{Arg}
use Rattle.language.specs.declared.values.Arg.TheVariants.{Word, Array}

-- the greatest value that a word of a kind has
abbrev pub greatest_of : Kind → ℕ
greatest_of Boolean = 1
greatest_of Uint8 = 255
greatest_of Uint16 = 65535
greatest_of Uint32 = 4294967295

-- the words of an argument
abbrev pub words_of : Arg → List ℕ
words_of (Word word) = word ∷ []
words_of (Array words) = words

-- a word for a word, and for an array of n words an array of n words
abbrev pub HasShape : Form → ℕ → Arg → Type 0
HasShape SingleWord n (Word word) = Unit {0}
HasShape SingleWord n (Array words) = ⊥
HasShape FixedArray n (Word word) = ⊥
HasShape FixedArray n (Array words) = length words ≡ n
HasShape MutableArray n (Word word) = ⊥
HasShape MutableArray n (Array words) = length words ≡ n

-- an argument is within the type of a parameter
pub record IsWithin (param : Param) (arg : Arg) : Type 0 where
  pub shape : HasShape param.form param.length arg
  pub values : All (λ word. word ≤ greatest_of param.kind) (words_of arg)

-- arguments are within the types of the parameters, one for each
abbrev pub AreWithin : List Param → List Arg → Type 0
AreWithin [] [] = Unit {0}
AreWithin [] (arg ∷ args) = ⊥
AreWithin (param ∷ params) [] = ⊥
AreWithin (param ∷ params) (arg ∷ args) = IsWithin param arg × AreWithin params args
