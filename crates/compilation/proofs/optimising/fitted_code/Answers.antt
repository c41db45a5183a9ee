use Rattle.std.proofs.lemmas.Option.{IfSome_then}
use Rattle.std.proofs.lemmas.Result.{IfOk-weaker}
use Rattle.compilation.proofs.optimising.fitted_code.Goals as goal

pub returns-clause-generated : goal.returns-clause-generated
returns-clause-generated c =
    IfOk-weaker c.optimised_code.result _ _
    (λ made there.
    IfSome_then made there (λ code is. record {
      source = is.source;
      stands = λ ranged removed.
          is.stands ranged (c.replaced_is_removed.ensures ranged _ _ removed c.with_needed-fitted.ensures.replaced);
      generated = is.generated;
      follows = is.follows;
    }))
    c.optimised_code.ensures.generated
