-- The first values that are written for an array.
use Rattle.std.specs.Prelude.{List, Option, map}
use Rattle.std.specs.Global.{Vec}
use Rattle.std.specs.Option.{option_map}
use Rattle.labels.specs.Below.{Expr, expr_tree, ExprTree}

abbrev pub values_tree : Option (Vec Expr) → Option (List ExprTree)
values_tree values = option_map (λ given. map expr_tree given.items) values
