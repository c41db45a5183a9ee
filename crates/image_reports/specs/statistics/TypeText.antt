-- How a type is written in a source.
use Rattle.std.specs.Prelude.{ℕ, List, [], ◌++◌, codes}
use Rattle.std.specs.Fmt.{decimal}
use Rattle.image_reports.specs.Below.{Boolean, FixedArray, Form, Kind, Label, MutableArray, Param, Public, Secret}
use Rattle.image_reports.specs.Below.{SingleWord, Uint16, Uint32, Uint8}

abbrev pub kind_text : Kind → List ℕ
kind_text Boolean = codes "bool"
kind_text Uint8 = codes "uint8"
kind_text Uint16 = codes "uint16"
kind_text Uint32 = codes "uint32"

abbrev pub label_text : Label → List ℕ
label_text Public = codes "public "
label_text Secret = codes "secret "

-- an array that is changed
abbrev pub mutable_text : Form → List ℕ
mutable_text SingleWord = []
mutable_text FixedArray = []
mutable_text MutableArray = codes "mut "

-- how many elements an array has
abbrev pub length_text : Form → ℕ → List ℕ
length_text SingleWord count = []
length_text FixedArray count = codes "[" ++ decimal count ++ codes "]"
length_text MutableArray count = codes "[" ++ decimal count ++ codes "]"

-- the type of a parameter, without its name
abbrev pub param_text : Param → List ℕ
param_text param = label_text param.label ++ mutable_text param.form ++ kind_text param.kind
    ++ length_text param.form param.length
