-- Argument lists that an observer is allowed to tell apart by nothing.
use Rattle.std.specs.Prelude.{◌≡◌, List, [], ◌∷◌}
use Rattle.language.specs.arguments.Within.{AreWithin}
use Rattle.language.specs.declared.signature.Label.TheVariants.{Public}
use Rattle.language.specs.declared.signature.Param.{Param}
use Rattle.language.specs.declared.values.Arg.{Arg}

-- they are equal at each public parameter
abbrev pub EqualWherePublic : List Param → List Arg → List Arg → Type 0
EqualWherePublic [] one other = Unit {0}
EqualWherePublic (param ∷ params) [] other = Unit {0}
EqualWherePublic (param ∷ params) (a ∷ one) [] = Unit {0}
EqualWherePublic (param ∷ params) (a ∷ one) (b ∷ other) = (param.label ≡ Public → a ≡ b)
    × EqualWherePublic params one other

-- both are within the parameter types, and they are equal at each public parameter
pub record Agree (params : List Param) (one other : List Arg) : Type 0 where
  pub one_within : AreWithin params one
  pub other_within : AreWithin params other
  pub equal : EqualWherePublic params one other
