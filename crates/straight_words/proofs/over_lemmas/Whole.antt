-- A program that passes the test, and of which the variables, the body and the result are other ones, may stand in the
-- place of another where it keeps what each pass has to keep.
use Rattle.std.proofs.Common.{◌≡◌, List, Option, refl}
use Rattle.straight_words.specs.Below.{AreWithin, Arg, FlatVariable, IsReplaced, IsStraight, outcome_of, path_of}
use Rattle.straight_words.specs.Below.{StraightBlock, StraightProgram, TermTree, with_variables}
use Rattle.straight_words.proofs.over_lemmas.Values.{IsNoWorse}

module _ (p : StraightProgram) (declared : List FlatVariable) (body : StraightBlock) (value : Option TermTree) where
  abbrev made : StraightProgram
  made = with_variables p declared body value

  pub is_replaced : ((args : List Arg) → AreWithin p.parameters args
      → (outcome_of made args ≡ outcome_of p args) × IsNoWorse p.iterations (path_of p args) (path_of made args))
      → IsStraight made → IsReplaced p made
  is_replaced runs straight = record {
    profile = refl;
    parameters = refl;
    returned = refl;
    nodes = refl;
    work = refl;
    iterations = refl;
    straight = straight;
    outcome = λ args within. (runs args within).0;
    fine = λ args within. (runs args within).1.fine;
  }
