-- The C header of a function: its prototype with the names of the source, and what it needs of its caller.
use Rattle.std.specs.Prelude.{ℕ, List, [], ◌∷◌, ◌++◌, codes, Option, Some, None}
use Rattle.std.specs.Fmt.{decimal}
use Rattle.std.specs.List.{flat_map}
use Rattle.functions.specs.Below.{FixedArray, Form, MutableArray, P1, P2, Profile, room_of, SingleWord}
use Rattle.functions.specs.function_text.AssemblerText.{profile_text}
use Rattle.functions.specs.function_text.Functions.{Named, FunctionParts}
use Rattle.functions.specs.function_text.Names.{guard_name, stack_name}
use Rattle.expression_code.specs.declared.image_fields.slot.ResultSlot.{ResultSlot}
use Rattle.language.specs.declared.signature.Kind.{Kind}
use Rattle.language.specs.declared.signature.Kind.TheVariants.{Boolean, Uint8, Uint16, Uint32}
use Rattle.language.specs.declared.signature.Label.{Label}
use Rattle.language.specs.declared.signature.Label.TheVariants.{Public, Secret}

abbrev pub type_text : Kind → List ℕ
type_text Boolean = codes "bool"
type_text Uint8 = codes "uint8_t"
type_text Uint16 = codes "uint16_t"
type_text Uint32 = codes "uint32_t"

abbrev pub label_text : Label → List ℕ
label_text Public = codes "/* public */"
label_text Secret = codes "/* secret */"

-- an array that is not changed
abbrev pub const_text : Form → List ℕ
const_text SingleWord = []
const_text FixedArray = codes "const "
const_text MutableArray = []

-- how many elements an array has
abbrev pub length_text : Form → ℕ → List ℕ
length_text SingleWord count = []
length_text FixedArray count = codes "[" ++ decimal count ++ codes "]"
length_text MutableArray count = codes "[" ++ decimal count ++ codes "]"

abbrev pub parameter_text : Named → List ℕ
parameter_text p =
    const_text p.param.form ++ type_text p.param.kind ++ codes " " ++ p.name
    ++ length_text p.param.form p.param.length
    ++ codes " " ++ label_text p.param.label

-- a line each, behind another one
abbrev pub later_text : List Named → List ℕ
later_text later = flat_map (λ next. codes ",\n    " ++ parameter_text next) later

abbrev pub parameters_text : List Named → List ℕ
parameters_text [] = codes "void"
parameters_text (p ∷ later) = parameter_text p ++ later_text later

abbrev pub result_text : Option ResultSlot → List ℕ
result_text None = codes "void"
result_text (Some slot) = type_text slot.kind ++ codes " " ++ label_text slot.label

-- what is premised
abbrev pub premise_lines : List ℕ → List ℕ
premise_lines name =
    codes "/* " ++ name ++ codes ": made by factc 1.0.0 function.\n"
    ++ codes
    "   Arrays are aligned by their elements, lie outside the stack below the caller, and no two that are not const overlap.\n"

-- the operations whose operands an observer sees
abbrev pub shown_operations : Profile → List ℕ
shown_operations P1 = codes "divisions"
shown_operations P2 = codes "divisions and multiplications"

-- what is promised, and that it says nothing of time
abbrev pub promise_lines : Profile → List ℕ
promise_lines profile =
    codes "   For an observer of profile " ++ profile_text profile
    ++ codes
    ": neither the instructions that it executes, nor the addresses of its loads and stores,\n   nor the operands of its "
    ++ shown_operations profile ++ codes " depend on secret arguments. Nothing is proved of time. */\n"

abbrev pub comment_lines : FunctionParts → List ℕ
comment_lines f = premise_lines f.name ++ promise_lines f.image.profile

abbrev pub guard_lines : List ℕ → List ℕ
guard_lines name = codes "#ifndef " ++ guard_name name ++ codes "\n#define " ++ guard_name name ++ codes "\n"

abbrev pub include_lines : List ℕ
include_lines = codes "#include <stdbool.h>\n#include <stdint.h>\n"

-- the macro of how many bytes of stack a call takes
abbrev pub stack_line : List ℕ → ℕ → List ℕ
stack_line name bytes = codes "#define " ++ stack_name name ++ codes " " ++ decimal bytes ++ codes "\n"

abbrev pub prototype_lines : FunctionParts → List ℕ
prototype_lines f =
    codes "#ifdef __cplusplus\nextern \"C\" {\n#endif\n" ++ result_text f.image.returned ++ codes " " ++ f.name
    ++ codes "(\n    "
    ++ parameters_text f.parameters ++ codes ");\n#ifdef __cplusplus\n}\n#endif\n#endif\n"

abbrev pub header_text : FunctionParts → List ℕ
header_text f =
    comment_lines f ++ guard_lines f.name ++ include_lines ++ stack_line f.name (room_of f.image) ++ prototype_lines f
