-- What a violation's own evidence says: lines, each with its end, or nothing. Names are read in the source at their
-- places.
use Rattle.std.specs.Prelude.{ℕ, ◌-◌, ◌==◌, false, true, List, [], ◌++◌, codes, Option, None, Some}
use Rattle.std.specs.Prelude.{if◌then◌else◌}
use Rattle.std.specs.Fmt.{decimal}
use Rattle.language.specs.Types.{bits_of}
use Rattle.language.specs.declared.interval.Interval.{Interval}
use Rattle.explanations.specs.Below.{Boolean, Kind, Place, place_text, Uint16, Uint32, Uint8, ValueType, Why, Word}
use Rattle.explanations.specs.Below.{WordType}
use Rattle.language.specs.declared.why.ArgumentCounts.{ArgumentCounts}
use Rattle.language.specs.declared.why.IndexRange.{IndexRange}
use Rattle.language.specs.declared.why.Literal.{Literal}
use Rattle.language.specs.declared.why.SecretControl.{SecretControl}
use Rattle.language.specs.declared.why.SharedArray.{SharedArray}
use Rattle.language.specs.declared.why.ValueCounts.{ValueCounts}
use Rattle.language.specs.declared.why.Why.TheVariants as why
use Rattle.explanations.specs.refusal_details.SizeLines.{excess_line}
use Rattle.explanations.specs.refusal_details.TypeLines.{kind_text, name_at, two_line, type_lines, type_text}

-- the end of a word for so many
abbrev pub ending : ℕ → List ℕ
ending n = if n == 1 then [] else codes "s"

-- T1: how a number is written in the width that is wanted
abbrev pub suffix : Kind → List ℕ
suffix Boolean = []
suffix Uint8 = codes "u8"
suffix Uint16 = codes "u16"
suffix Uint32 = codes "u32"

abbrev pub literal_line : Option Literal → List ℕ
literal_line None = []
literal_line (Some n) = codes "  write `" ++ (decimal n.value ++ (suffix n.kind ++ codes "`\n"))

-- T3: a number, and the greatest of its kind
abbrev pub greatest : Kind → ℕ
greatest Boolean = 1
greatest Uint8 = 255
greatest Uint16 = 65535
greatest Uint32 = 4294967295

abbrev pub number_line : Literal → List ℕ
number_line n =
    codes "  the number is "
    ++ (decimal n.value ++ (codes ", and the greatest "
    ++ (kind_text n.kind ++ (codes " is " ++ (decimal (greatest n.kind) ++ codes "\n")))))

-- T3: by how much something is rotated, and by how much it may be
abbrev pub amount_line : Literal → List ℕ
amount_line n =
    codes "  the amount is "
    ++ (decimal n.value ++ (codes ", and for a "
    ++ (kind_text n.kind ++ (codes " it is from 1 to " ++ (decimal (bits_of n.kind - 1) ++ codes "\n")))))

-- T4: how many arguments a call has, and how many its procedure takes
abbrev pub argument_line : List ℕ → ArgumentCounts → List ℕ
argument_line source c =
    codes "  the call has " ++ (decimal c.given ++ (codes " argument" ++ (ending c.given
    ++ (codes ", and `" ++ (name_at source c.procedure
    ++ (codes "`, declared at "
    ++ (place_text c.procedure ++ (codes ", takes " ++ (decimal c.taken ++ codes "\n")))))))))

-- N1: the nearest of the variables in scope
abbrev pub nearest_line : List ℕ → Place → List ℕ
nearest_line source place =
    codes "  the nearest name in scope is `"
    ++ (name_at source place ++ (codes "`, declared at " ++ (place_text place ++ codes "\n")))

-- T6: what is not `mut`, and where it is declared
abbrev pub fixed_line : List ℕ → Place → List ℕ
fixed_line source place =
    codes "  `" ++ (name_at source place ++ (codes "` is not `mut`, declared at " ++ (place_text place ++ codes "\n")))

-- T7: what is returned where nothing is, or what is not returned
abbrev pub returned_line : ValueType → List ℕ
returned_line given = codes "  the value is " ++ (type_text true given ++ codes ", the procedure is void\n")

abbrev pub missing_line : WordType → List ℕ
missing_line result = codes "  the result is " ++ (type_text true (Word result) ++ codes ", and there is no `return`\n")

-- T8: for which two parameters an array is passed
abbrev pub shared_line : List ℕ → SharedArray → List ℕ
shared_line source s =
    codes "  `"
    ++ (name_at source s.array ++ (codes "` is passed for the parameters `"
    ++ (name_at source s.one ++ (codes "` and `" ++ (name_at source s.other ++ codes "`\n")))))

-- T9: how many elements an array has, and how many values its list
abbrev pub value_line : ValueCounts → List ℕ
value_line c =
    codes "  the array's length is "
    ++ (decimal c.length ++ (codes ", and its list has "
    ++ (decimal c.values ++ (codes " value" ++ (ending c.values ++ codes "\n")))))

-- L1, L3, L4, L5, L7: the first secret name
abbrev pub secret_line : List ℕ → Option Place → List ℕ
secret_line source None = []
secret_line source (Some place) =
    codes "  `" ++ (name_at source place ++ (codes "` is secret, declared at " ++ (place_text place ++ codes "\n")))

-- L2, L6: the innermost `if` around with a secret condition, and the first secret name in that
abbrev pub control_lines : List ℕ → SecretControl → List ℕ
control_lines source c =
    codes "  control is secret in the `if` at " ++ (place_text c.place ++ (codes "\n" ++ secret_line source c.name))

-- I1: which numbers the index may be, and the length of its array; I2: which the divisor may be
abbrev pub interval_text : Interval → List ℕ
interval_text i = if i.low == i.high then decimal i.low else decimal i.low ++ (codes " to " ++ decimal i.high)

abbrev pub index_line : IndexRange → List ℕ
index_line r =
    codes "  the index is "
    ++ (interval_text r.index ++ (codes ", and the array's length is " ++ (decimal r.length ++ codes "\n")))

abbrev pub divisor_line : Interval → List ℕ
divisor_line i = codes "  the divisor is " ++ (interval_text i ++ codes "\n")

-- of each; labels are shown where the rule looks at them
abbrev pub why_lines : List ℕ → Why → List ℕ
why_lines source why.Plain = []
why_lines source (why.Types types number) = type_lines false source types ++ literal_line number
why_lines source (why.Shapes part other) = two_line true source part other
why_lines source (why.Number n) = number_line n
why_lines source (why.Amount n) = amount_line n
why_lines source (why.ArgumentCounts c) = argument_line source c
why_lines source (why.Nearest place) = nearest_line source place
why_lines source (why.Fixed place) = fixed_line source place
why_lines source (why.Returned given) = returned_line given
why_lines source (why.Missing result) = missing_line result
why_lines source (why.Shared s) = shared_line source s
why_lines source (why.ValueCounts c) = value_line c
why_lines source (why.Leak types name) = type_lines true source types ++ secret_line source name
why_lines source (why.Secret name) = secret_line source name
why_lines source (why.Control c) = control_lines source c
why_lines source (why.Index r) = index_line r
why_lines source (why.Divisor i) = divisor_line i
why_lines source (why.TooMuch e) = excess_line e
