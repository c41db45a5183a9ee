-- Whether code makes an upper word of a product, and the code in which each that it makes is an operator.
use Rattle.std.specs.Prelude.{◌||◌, Bool, false, is_some, List, [], ◌∷◌, Option, None, Some}
use Rattle.std.specs.Option.{option_map}
use Rattle.optimisation.specs.Below.{array, binary, branch, convert, element, first, HighProduct, nothing, number}
use Rattle.optimisation.specs.Below.{Place}
use Rattle.optimisation.specs.Below.{prefix, put, repeats, rotate, select, set, StraightBlock, StraightProgram}
use Rattle.optimisation.specs.Below.{StraightTree, take, TermTree, truth, variable, W32, with_variables}
use Rattle.optimisation.specs.declared.high_products.shapes.Factors.{Factors}
use Rattle.optimisation.specs.high_products.private.Shapes.{upper_word}
use Rattle.straight_words.specs.private.Rewriting.{rewritten, rewritten_all, rewritten_in}

-- Whether code makes one.

abbrev pub makes : TermTree → Bool
makes (number value kind) = false
makes (truth value) = false
makes (variable x) = false
makes (prefix operator width operand) = makes operand
makes (binary place operator width left right) =
    is_some (upper_word (binary place operator width left right)) || makes left || makes right
makes (rotate width operand amount) = makes operand
makes (convert kind operand) = makes operand
makes (select condition accepted otherwise) = makes condition || makes accepted || makes otherwise
makes (element place x size index) = makes index

abbrev pub one_makes : List TermTree → Bool
one_makes [] = false
one_makes (e ∷ es) = makes e || one_makes es

abbrev mutual
  pub makes_in : StraightTree → Bool
  makes_in (set within x value) = makes value
  makes_in (array x size values) = one_makes values
  makes_in (put within place x size index value) = makes index || makes value
  makes_in (take control within condition) = makes condition
  makes_in (branch condition accepted otherwise) = makes condition || one_makes_in accepted || one_makes_in otherwise
  makes_in (repeats x low high body) = makes low || makes high || one_makes_in body

  pub one_makes_in : StraightBlock → Bool
  one_makes_in nothing = false
  one_makes_in (first statement rest) = makes_in statement || one_makes_in rest

abbrev pub makes_where_any : Option TermTree → Bool
makes_where_any None = false
makes_where_any (Some e) = makes e

abbrev pub program_makes : StraightProgram → Bool
program_makes p = one_makes_in p.body || makes_where_any p.value

-- The code with operators.

-- the operator between two variables
abbrev pub product_of : Place → Factors → TermTree
product_of place f = binary place HighProduct W32 (variable f.one) (variable f.other)

-- it stands in the place of an upper word
abbrev pub product_instead : TermTree → Option TermTree
product_instead (binary place operator width left right) =
    option_map (product_of place) (upper_word (binary place operator width left right))
product_instead _ = None

abbrev pub replaced : TermTree → TermTree
replaced = rewritten product_instead

abbrev pub replaced_in : StraightTree → StraightTree
replaced_in = rewritten_in product_instead

abbrev pub replaced_all : StraightBlock → StraightBlock
replaced_all = rewritten_all product_instead

abbrev pub replaced_program : StraightProgram → StraightProgram
replaced_program p = with_variables p p.declared (replaced_all p.body) (option_map replaced p.value)
