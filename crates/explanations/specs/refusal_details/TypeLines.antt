-- Types that a rule compares: lines, each with its end.
use Rattle.std.specs.Prelude.{ℕ, Bool, false, true, List, [], ◌++◌, drop, codes}
use Rattle.std.specs.Fmt.{decimal}
use Rattle.std.specs.List.{take_while}
use Rattle.explanations.specs.Below.{Array, Boolean, is_word_byte, Kind, Nothing, Place, Uint16, Uint32, Uint8}
use Rattle.explanations.specs.Below.{ValueType, Word}
use Rattle.language.specs.declared.signature.Label.{Label}
use Rattle.language.specs.declared.signature.Label.TheVariants.{Public, Secret}
use Rattle.language.specs.declared.why.ComparedTypes.{ComparedTypes}
use Rattle.language.specs.declared.why.ComparedTypes.TheVariants.{One, Two, Choice}
use Rattle.language.specs.declared.why.Part.{Part}
use Rattle.language.specs.declared.why.Part.TheVariants.{Operand, LeftOperand, RightOperand, Condition, FirstBound}
use Rattle.language.specs.declared.why.Part.TheVariants.{SecondBound, Index, Variable, Element, Result, Value, Argument}
use Rattle.language.specs.declared.why.Part.TheVariants.{Parameter}
use Rattle.language.specs.declared.why.TypedPart.{TypedPart}

-- the name that stands at a place of a source: the letters, digits and `_` from there on
abbrev pub name_at : List ℕ → Place → List ℕ
name_at source place = take_while is_word_byte (drop place.offset source)

abbrev pub kind_text : Kind → List ℕ
kind_text Boolean = codes "bool"
kind_text Uint8 = codes "uint8"
kind_text Uint16 = codes "uint16"
kind_text Uint32 = codes "uint32"

-- a label and a blank, or nothing where labels are not shown
abbrev pub label_text : Bool → Label → List ℕ
label_text false label = []
label_text true Public = codes "public "
label_text true Secret = codes "secret "

-- a type with its label, or without
abbrev pub type_text : Bool → ValueType → List ℕ
type_text labelled (Word w) = label_text labelled w.label ++ kind_text w.kind
type_text labelled (Array a) =
    label_text labelled a.element.label
    ++ (kind_text a.element.kind ++ (codes "[" ++ (decimal a.length ++ codes "]")))
type_text labelled Nothing = codes "void"

-- what a part is called; of a parameter, without its name
abbrev pub part_word : Part → List ℕ
part_word Operand = codes "operand"
part_word LeftOperand = codes "left operand"
part_word RightOperand = codes "right operand"
part_word Condition = codes "condition"
part_word FirstBound = codes "first bound"
part_word SecondBound = codes "second bound"
part_word Index = codes "index"
part_word Variable = codes "variable"
part_word Element = codes "element"
part_word Result = codes "result"
part_word Value = codes "value"
part_word Argument = codes "argument"
part_word (Parameter place) = codes "parameter"

-- a parameter has its name behind
abbrev pub part_name : List ℕ → Part → List ℕ
part_name source (Parameter place) = codes "parameter `" ++ (name_at source place ++ codes "`")
part_name source part = part_word part

-- a part's type
abbrev pub typed_text : Bool → List ℕ → TypedPart → List ℕ
typed_text labelled source t =
    codes "the " ++ (part_name source t.part ++ (codes " is " ++ type_text labelled t.value))

abbrev pub one_line : Bool → List ℕ → TypedPart → List ℕ
one_line labelled source t = codes "  " ++ (typed_text labelled source t ++ codes "\n")

abbrev pub two_line : Bool → List ℕ → TypedPart → TypedPart → List ℕ
two_line labelled source t other =
    codes "  " ++ (typed_text labelled source t ++ (codes ", " ++ (typed_text labelled source other ++ codes "\n")))

abbrev pub choice_lines : Bool → ValueType → ValueType → ValueType → List ℕ
choice_lines labelled condition accepted otherwise =
    codes "  the first operand is "
    ++ (type_text labelled condition
    ++ (codes "\n  the second operand is "
    ++ (type_text labelled accepted
    ++ (codes ", the third operand is " ++ (type_text labelled otherwise ++ codes "\n")))))

-- types that a rule compares, with their labels or without
abbrev pub type_lines : Bool → List ℕ → ComparedTypes → List ℕ
type_lines labelled source (One t) = one_line labelled source t
type_lines labelled source (Two t other) = two_line labelled source t other
type_lines labelled source (Choice condition accepted otherwise) = choice_lines labelled condition accepted otherwise
