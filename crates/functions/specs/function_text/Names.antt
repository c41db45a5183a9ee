-- Names that C, its library, C++ or an assembler cannot take for a function, and the names of its parameters.
use Rattle.functions.specs.function_text.Library.{macro_names, number_names, system_names, text_names, thread_names}
use Rattle.std.specs.Char.{is_ascii_lowercase, is_ascii_uppercase}
use Rattle.std.specs.Prelude.{ℕ, Bool, ◌&&◌, ◌||◌, ◌==◌, nat_eq, nat_le, List, [], ◌∷◌, ◌++◌, length, slice_index}
use Rattle.std.specs.Prelude.{codes, if◌then◌else◌}
use Rattle.std.specs.Cmp.Lexicographic.{pointwise}
use Rattle.std.specs.List.{list_any, starts_with, ends_with}

abbrev pub is_word : List ℕ → List ℕ → Bool
is_word name word = pointwise nat_eq word name

abbrev pub begins : List ℕ → List ℕ → Bool
begins name part = starts_with nat_eq name part

abbrev pub ends : List ℕ → List ℕ → Bool
ends name part = ends_with nat_eq name part

-- keywords of C11, those that GNU C adds, and what <stdbool.h> defines
abbrev pub c_words : List (List ℕ)
c_words =
    codes "auto" ∷ codes "break" ∷ codes "case" ∷ codes "char" ∷ codes "const" ∷ codes "continue" ∷ codes "default"
    ∷ codes "do" ∷ codes "double" ∷ codes "else" ∷ codes "enum" ∷ codes "extern" ∷ codes "float" ∷ codes "for"
    ∷ codes "goto" ∷ codes "if" ∷ codes "inline" ∷ codes "int" ∷ codes "long" ∷ codes "register" ∷ codes "restrict"
    ∷ codes "return" ∷ codes "short" ∷ codes "signed" ∷ codes "sizeof" ∷ codes "static" ∷ codes "struct"
    ∷ codes "switch" ∷ codes "typedef" ∷ codes "union" ∷ codes "unsigned" ∷ codes "void" ∷ codes "volatile"
    ∷ codes "while" ∷ codes "asm" ∷ codes "typeof" ∷ codes "bool" ∷ codes "true" ∷ codes "false" ∷ []

-- keywords that C++20 has beside these
abbrev pub cpp_words : List (List ℕ)
cpp_words =
    codes "alignas" ∷ codes "alignof" ∷ codes "and" ∷ codes "and_eq" ∷ codes "bitand" ∷ codes "bitor" ∷ codes "catch"
    ∷ codes "char8_t" ∷ codes "char16_t" ∷ codes "char32_t" ∷ codes "class" ∷ codes "co_await" ∷ codes "co_return"
    ∷ codes "co_yield" ∷ codes "compl" ∷ codes "concept" ∷ codes "const_cast" ∷ codes "consteval" ∷ codes "constexpr"
    ∷ codes "constinit"
    ∷ codes "decltype" ∷ codes "delete" ∷ codes "dynamic_cast" ∷ codes "explicit" ∷ codes "export" ∷ codes "friend"
    ∷ codes "mutable" ∷ codes "namespace" ∷ codes "new" ∷ codes "noexcept" ∷ codes "not" ∷ codes "not_eq"
    ∷ codes "nullptr" ∷ codes "operator" ∷ codes "or" ∷ codes "or_eq" ∷ codes "private" ∷ codes "protected"
    ∷ codes "public" ∷ codes "reinterpret_cast" ∷ codes "requires" ∷ codes "static_assert" ∷ codes "static_cast"
    ∷ codes "template"
    ∷ codes "this" ∷ codes "thread_local" ∷ codes "throw" ∷ codes "try" ∷ codes "typeid" ∷ codes "typename"
    ∷ codes "using" ∷ codes "virtual" ∷ codes "wchar_t" ∷ codes "xor" ∷ codes "xor_eq" ∷ []

-- the registers of RV32, by number and by use
abbrev pub register_words : List (List ℕ)
register_words =
    codes "x0" ∷ codes "x1" ∷ codes "x2" ∷ codes "x3" ∷ codes "x4" ∷ codes "x5" ∷ codes "x6" ∷ codes "x7"
    ∷ codes "x8" ∷ codes "x9" ∷ codes "x10" ∷ codes "x11" ∷ codes "x12" ∷ codes "x13" ∷ codes "x14" ∷ codes "x15"
    ∷ codes "x16" ∷ codes "x17" ∷ codes "x18" ∷ codes "x19" ∷ codes "x20" ∷ codes "x21" ∷ codes "x22" ∷ codes "x23"
    ∷ codes "x24" ∷ codes "x25" ∷ codes "x26" ∷ codes "x27" ∷ codes "x28" ∷ codes "x29" ∷ codes "x30" ∷ codes "x31"
    ∷ codes "zero" ∷ codes "ra" ∷ codes "sp" ∷ codes "gp" ∷ codes "tp" ∷ codes "fp" ∷ codes "pc"
    ∷ codes "t0" ∷ codes "t1" ∷ codes "t2" ∷ codes "t3" ∷ codes "t4" ∷ codes "t5" ∷ codes "t6"
    ∷ codes "s0" ∷ codes "s1" ∷ codes "s2" ∷ codes "s3" ∷ codes "s4" ∷ codes "s5" ∷ codes "s6" ∷ codes "s7"
    ∷ codes "s8" ∷ codes "s9" ∷ codes "s10" ∷ codes "s11"
    ∷ codes "a0" ∷ codes "a1" ∷ codes "a2" ∷ codes "a3" ∷ codes "a4" ∷ codes "a5" ∷ codes "a6" ∷ codes "a7" ∷ []

-- the function that a program begins with, names that compilers for Unix define, and limits of <stdint.h>
abbrev pub other_words : List (List ℕ)
other_words =
    codes "main" ∷ codes "linux" ∷ codes "unix" ∷ codes "PTRDIFF_MIN" ∷ codes "PTRDIFF_MAX" ∷ codes "SIG_ATOMIC_MIN"
    ∷ codes "SIG_ATOMIC_MAX" ∷ codes "SIZE_MAX" ∷ codes "WCHAR_MIN" ∷ codes "WCHAR_MAX" ∷ codes "WINT_MIN"
    ∷ codes "WINT_MAX" ∷ []

unfoldable pub is_c_word : List ℕ → Bool
is_c_word name = list_any (is_word name) c_words

unfoldable pub is_cpp_word : List ℕ → Bool
is_cpp_word name = list_any (is_word name) cpp_words

unfoldable pub is_register : List ℕ → Bool
is_register name = list_any (is_word name) register_words

unfoldable pub is_other_word : List ℕ → Bool
is_other_word name = list_any (is_word name) other_words

-- `_` and a capital letter, or two `_`, which are the compiler's own
unfoldable pub is_compilers : List ℕ → Bool
is_compilers name =
    nat_le 2 (length name) && ((slice_index name 0 == 95)
    && ((slice_index name 1 == 95) || is_ascii_uppercase (slice_index name 1)))

-- what <stdint.h> may define: `intN_t` and `uintN_t` in all their forms, and their limits
unfoldable pub is_integers : List ℕ → Bool
is_integers name =
    ((begins name (codes "int") || begins name (codes "uint")) && ends name (codes "_t"))
    || ((begins name (codes "INT") || begins name (codes "UINT"))
    && (ends name (codes "_MIN") || (ends name (codes "_MAX") || ends name (codes "_C"))))

-- what <inttypes.h> defines as formats of printed and of scanned integers
unfoldable pub is_format : List ℕ → Bool
is_format name =
    nat_le 4 (length name) && ((begins name (codes "PRI") || begins name (codes "SCN"))
    && (is_ascii_lowercase (slice_index name 3) || (slice_index name 3 == 88)))

unfoldable pub is_macro_name : List ℕ → Bool
is_macro_name name = list_any (is_word name) macro_names

-- what neither a function nor a parameter can be called
unfoldable pub is_taken_name : List ℕ → Bool
is_taken_name name =
    is_c_word name
    || (is_cpp_word name || (is_register name || (is_other_word name || (is_compilers name || (is_integers name
    || (is_format name || is_macro_name name))))))

unfoldable pub is_number_name : List ℕ → Bool
is_number_name name = list_any (is_word name) number_names

unfoldable pub is_text_name : List ℕ → Bool
is_text_name name = list_any (is_word name) text_names

unfoldable pub is_system_name : List ℕ → Bool
is_system_name name = list_any (is_word name) system_names

unfoldable pub is_thread_name : List ℕ → Bool
is_thread_name name = list_any (is_word name) thread_names

-- what C's library has, as a function, a macro with arguments or a type
unfoldable pub is_library_name : List ℕ → Bool
is_library_name name = is_number_name name || (is_text_name name || (is_system_name name || is_thread_name name))

-- what a function cannot be called
unfoldable pub is_taken_function : List ℕ → Bool
is_taken_function name = is_taken_name name || is_library_name name

-- Parameters. A name that is taken is written with `_` behind, and one that ends in `_` with one more: so different
-- names are written differently.

-- the macros that the header of a function defines
abbrev pub guard_name : List ℕ → List ℕ
guard_name function = codes "FACT_" ++ function ++ codes "_H"

abbrev pub stack_name : List ℕ → List ℕ
stack_name function = function ++ codes "_STACK_BYTES"

-- whether a parameter of the function cannot have this name
abbrev pub is_taken_in : List ℕ → List ℕ → Bool
is_taken_in function name = is_taken_name name
    || (is_word name (guard_name function) || is_word name (stack_name function))

abbrev pub written_name : List ℕ → List ℕ → List ℕ
written_name function name = if is_taken_in function name || ends name (codes "_") then name ++ codes "_" else name
