-- How large a body with numbered variables is, and the bounds that it keeps.
use Rattle.std.specs.Prelude.{◌≡◌, ℕ, ◌+◌, ◌*◌, ◌≤◌, List, [], ◌∷◌, map, Option, None, Some}
use Rattle.std.specs.List.{AllByRecursion}
use Rattle.inline.specs.declared.flat.FlatVariable.{FlatVariable}
use Rattle.inline.specs.Flat.{TermTree, number, truth, variable, prefix, binary, rotate, convert, select, element}
use Rattle.inline.specs.Flat.{FlatTree, declare, array, assign, put, hold, skip, branch, loop, FlatBlock, nothing}
use Rattle.inline.specs.Flat.{first, FlatProgram, declaration_of}
pub use Rattle.inline.specs.Limits.{most_variable_bytes}
use Rattle.inline.specs.Below.{array_words, FixedArray, Form, most_declared_bytes, most_elements, most_nodes}
use Rattle.inline.specs.Below.{MutableArray, Param, SingleWord, WordType}

-- the nodes of an expression
abbrev pub term_nodes : TermTree → ℕ
term_nodes (number value kind) = 1
term_nodes (truth value) = 1
term_nodes (variable x) = 1
term_nodes (prefix operator width operand) = 1 + term_nodes operand
term_nodes (binary place operator width left right) = 1 + term_nodes left + term_nodes right
term_nodes (rotate width operand amount) = 1 + term_nodes operand
term_nodes (convert kind operand) = 1 + term_nodes operand
term_nodes (select condition accepted otherwise) =
    1 + term_nodes condition + term_nodes accepted + term_nodes otherwise
term_nodes (element place x size index) = 1 + term_nodes index

-- of expressions
abbrev pub terms_nodes : List TermTree → ℕ
terms_nodes [] = 0
terms_nodes (e ∷ es) = term_nodes e + terms_nodes es

abbrev mutual
  -- the nodes of a statement, itself among them; an element that is assigned to is one too
  pub tree_nodes : FlatTree → ℕ
  tree_nodes (declare x word mutable value) = 1 + term_nodes value
  tree_nodes (array x word mutable size values) = 1 + terms_nodes values
  tree_nodes (assign x value) = 1 + term_nodes value
  tree_nodes (put place x size index value) = 1 + (1 + term_nodes index) + term_nodes value
  tree_nodes (hold x place size index) = 1 + term_nodes index
  tree_nodes skip = 1
  tree_nodes (branch label condition accepted otherwise) =
      1 + term_nodes condition + body_nodes accepted + body_nodes otherwise
  tree_nodes (loop x low high body) = 1 + term_nodes low + term_nodes high + body_nodes body

  pub body_nodes : FlatBlock → ℕ
  body_nodes nothing = 0
  body_nodes (first statement rest) = tree_nodes statement + body_nodes rest

-- the result, where there is one, is a node beside those of its expression
abbrev pub value_nodes : Option TermTree → ℕ
value_nodes None = 0
value_nodes (Some value) = 1 + term_nodes value

-- how many words of 4 bytes a variable takes: the last one of an array may be taken in part
abbrev pub words_by : WordType → Option ℕ → ℕ
words_by word None = 1
words_by word (Some size) = array_words word.kind size

abbrev pub words_of : FlatVariable → ℕ
words_of d = words_by d.word d.elements

-- how many words all variables take
abbrev pub declared_words : List FlatVariable → ℕ
declared_words [] = 0
declared_words (d ∷ ds) = words_of d + declared_words ds

-- a parameter's length: 1 of a word, and an array has at least one element
abbrev pub HasLength : Form → ℕ → Type 0
HasLength SingleWord length = length ≡ 1
HasLength FixedArray length = (1 ≤ length) × (length ≤ most_elements)
HasLength MutableArray length = (1 ≤ length) × (length ≤ most_elements)

-- a program within the limits on size
pub record IsSized (p : FlatProgram) : Type 0 where
  pub lengths : AllByRecursion (λ (parameter : Param). HasLength parameter.form parameter.length) p.parameters
  -- the parameters are within what the source may declare
  pub parameters : 4 * declared_words (map declaration_of p.parameters) ≤ most_declared_bytes
  -- what the source declares, and the words that are held besides: one for every three nodes at most
  pub declared : 4 * declared_words p.declared ≤ most_variable_bytes
  -- its nodes are those of the source
  pub counted : body_nodes p.body + value_nodes p.value ≡ p.nodes
  pub nodes : p.nodes ≤ most_nodes
