-- The tokens that are tried, one of each kind, with what the kind is called.
use Rattle.std.specs.Prelude.{ℕ, List, [], ◌∷◌, ◌++◌, codes}

-- brackets and punctuation
unfoldable pub punctuation : List (List ℕ × List ℕ)
punctuation =
    (codes "`;`", codes ";") ∷
    (codes "`,`", codes ",") ∷
    (codes "`)`", codes ")") ∷
    (codes "`]`", codes "]") ∷
    (codes "`{`", codes "{") ∷
    (codes "`}`", codes "}") ∷
    (codes "`(`", codes "(") ∷
    (codes "`[`", codes "[") ∷
    (codes "`=`", codes "=") ∷
    []

-- what an operand begins with
unfoldable pub operands : List (List ℕ × List ℕ)
operands =
    (codes "a name", codes "x") ∷
    (codes "a number", codes "1") ∷
    (codes "`true` or `false`", codes "true") ∷
    (codes "`select`", codes "select") ∷
    (codes "an operator before its operand", codes "!") ∷
    []

-- operators between operands: those of a kind may stand in the same places
unfoldable pub operators : List (List ℕ × List ℕ)
operators =
    (codes "an arithmetic operator", codes "+") ∷
    (codes "a bitwise operator", codes "&") ∷
    (codes "a comparison", codes "==") ∷
    (codes "a logical operator", codes "&&") ∷
    []

-- labels and types
unfoldable pub types : List (List ℕ × List ℕ)
types =
    (codes "`public` or `secret`", codes "public") ∷
    (codes "`mut`", codes "mut") ∷
    (codes "`bool`", codes "bool") ∷
    (codes "`uint8`", codes "uint8") ∷
    (codes "`uint16`", codes "uint16") ∷
    (codes "`uint32`", codes "uint32") ∷
    (codes "`void`", codes "void") ∷
    []

-- other keywords, and the end of the source
unfoldable pub keywords : List (List ℕ × List ℕ)
keywords =
    (codes "`export`", codes "export") ∷
    (codes "`if`", codes "if") ∷
    (codes "`else`", codes "else") ∷
    (codes "`for`", codes "for") ∷
    (codes "`from`", codes "from") ∷
    (codes "`to`", codes "to") ∷
    (codes "`return`", codes "return") ∷
    (codes "the end", codes "") ∷
    []

-- all of them, in the order in which they are listed
unfoldable pub candidates : List (List ℕ × List ℕ)
candidates = punctuation ++ operands ++ operators ++ types ++ keywords
