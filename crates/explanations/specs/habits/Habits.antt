-- Habits of C: at which tokens a source has one, and what to write instead.
use Rattle.std.specs.Prelude.{ℕ, ◌<◌, ◌==◌, Bool, true, false, List, [], ◌∷◌, ◌++◌, length, codes, Option, None}
use Rattle.std.specs.List.{find, list_all, list_any, slice_split}
use Rattle.std.specs.Option.{option_map}
use Rattle.std.specs.Str.{bytes_eq}
use Rattle.tokens.specs.Lexeme.{Lexeme}
use Rattle.tokens.specs.Limits.{source_limit}
use Rattle.tokens.specs.Tokens.{TokensEnding, Lexes}
use Rattle.explanations.specs.habits.Spots.{Spot, spot_around, statement_start}
use Rattle.explanations.specs.declared.habits.spots.Region.{Region}
use Rattle.explanations.specs.declared.habits.spots.Region.TheVariants.{Outside, Body, Brackets}
use Rattle.explanations.specs.declared.habits.advice.TheConstants.{COMMENT, STEP, COMPOUND, COUNTED, WHILE, SWITCH}
use Rattle.explanations.specs.declared.habits.advice.TheConstants.{EARLY_RETURN, NO_RESULT, LEAVE, JUMP, FIELDS, WIDE}
use Rattle.explanations.specs.declared.habits.advice.TheConstants.{QUALIFIER, TYPE, NO_PARAMETERS, POINTER, GLOBAL}
use Rattle.explanations.specs.declared.habits.advice.TheConstants.{LENGTH, IMPORT, MUTABLE_WORD, FIRST_VALUE}
use Rattle.explanations.specs.declared.habits.advice.TheConstants.{ONE_VARIABLE, LABEL, KEYWORD}
use Rattle.explanations.specs.declared.habits.advice.TheConstants.{CONVERSION, UNSIGNED_SHIFT, ROTATION, ROTATED}
use Rattle.explanations.specs.declared.habits.advice.TheConstants.{CALL, COMPARISON, BRACES, EQUALS, SEMICOLON}

-- what stands at a place, or around it: the part of the program is this one; or one of some words is the first token of
-- the statement, the second token before the place, the one before it, the one there, or the next
pub data Clue : Type 0 where
  part : Region → Clue
  statement_begins : List ℕ → Clue
  two_before : List ℕ → Clue
  before : List ℕ → Clue
  here : List ℕ → Clue
  behind : List ℕ → Clue

-- what stands where a habit is refused, and what to write instead
abbrev pub Habit : Type 0
Habit = List Clue × List ℕ

abbrev pub statement_ends : List ℕ
statement_ends = codes "; { }"

abbrev pub types : List ℕ
types = codes "bool uint8 uint16 uint32"

abbrev pub c_types : List ℕ
c_types =
    codes "int char short long unsigned signed float double size_t "
    ++ codes "uint8_t uint16_t uint32_t int8_t int16_t int32_t int8 int16 int32"

abbrev pub wide_types : List ℕ
wide_types = codes "uint64 uint64_t int64 int64_t"

abbrev pub qualifiers : List ℕ
qualifiers = codes "const static inline volatile extern register restrict"

abbrev pub declarers : List ℕ
declarers = codes "struct union enum typedef"

abbrev pub keywords : List ℕ
keywords = codes "export void public secret mut bool uint8 uint16 uint32 true false if else for from to return select"

abbrev pub operators : List ℕ
operators = codes "+ - * / % & | ^ << >> <<<"

abbrev pub before_operands : List ℕ
before_operands = codes "+ - * / % & | ^ << >> ~ ! == != < <= > >= && || ( , [ { return from to"

abbrev pub comparisons : List ℕ
comparisons = codes "== != < <= > >="

unfoldable pub habits : List Habit
habits =
    -- `/* c */ y = 1;`
    (here (codes "/") ∷ behind (codes "*") ∷ [], COMMENT.now) ∷
    -- `y = x /* c */;`
    (before (codes "/") ∷ here (codes "*") ∷ [], COMMENT.now) ∷
    -- `y++;`
    (here (codes "+") ∷ behind (codes "+") ∷ [], STEP.now) ∷
    -- `y--;`, `--y;`
    (here (codes "-") ∷ behind (codes "-") ∷ [], STEP.now) ∷
    -- `z = y++;`
    (before (codes "+") ∷ here (codes "+") ∷ [], STEP.now) ∷
    -- `z = y--;`
    (two_before (codes "-") ∷ before (codes "-") ∷ [], STEP.now) ∷
    -- `y += 1;`
    (here operators ∷ behind (codes "=") ∷ [], COMPOUND.now) ∷
    -- `for (int i = 0; ..`
    (two_before (codes "for") ∷ before (codes "(") ∷ [], COUNTED.now) ∷
    -- `for (uint32 i = 0; ..`
    (part Brackets ∷ statement_begins (codes "for") ∷ here (codes "=") ∷ [], COUNTED.now) ∷
    -- `while (c) { .. }`, `do { .. }`
    (statement_begins (codes "while do") ∷ [], WHILE.now) ∷
    -- `switch (y) { .. }`
    (statement_begins (codes "switch") ∷ [], SWITCH.now) ∷
    -- `if (c) { return y; }`, `if (c) return y;`
    (part Body ∷ before (codes "; { } ) else") ∷ here (codes "return") ∷ [], EARLY_RETURN.now) ∷
    -- `return;`
    (before (codes "return") ∷ here (codes ";") ∷ [], NO_RESULT.now) ∷
    -- `break;`
    (statement_begins (codes "break continue") ∷ before (codes "break continue") ∷ [], LEAVE.now) ∷
    -- `goto out;`
    (statement_begins (codes "goto") ∷ before (codes "goto") ∷ [], JUMP.now) ∷
    -- `struct s { .. }`
    (here declarers ∷ [], FIELDS.now) ∷
    -- `struct s t;` in a body
    (statement_begins declarers ∷ before declarers ∷ [], FIELDS.now) ∷
    -- `import words;`
    (part Outside ∷ here (codes "import include using use") ∷ [], IMPORT.now) ∷
    -- `secret uint64 x`
    (here wide_types ∷ [], WIDE.now) ∷
    -- `uint64 x = 1;` in a body
    (statement_begins wide_types ∷ before wide_types ∷ [], WIDE.now) ∷
    -- `secret const uint32 x`
    (here qualifiers ∷ [], QUALIFIER.now) ∷
    -- `const uint32 x = 1;` in a body
    (statement_begins qualifiers ∷ before qualifiers ∷ [], QUALIFIER.now) ∷
    -- `secret int x`
    (here c_types ∷ [], TYPE.now) ∷
    -- `int x = 1;` in a body
    (statement_begins c_types ∷ before c_types ∷ [], TYPE.now) ∷
    -- `(int)x`
    (two_before c_types ∷ before (codes ")") ∷ [], CONVERSION.now) ∷
    -- `(uint32)x`
    (two_before (codes "(") ∷ before types ∷ here (codes ")") ∷ [], CONVERSION.now) ∷
    -- `void f(void)`
    (before (codes "(") ∷ here (codes "void") ∷ [], NO_PARAMETERS.now) ∷
    -- `secret uint32 *p`
    (before (codes "bool uint8 uint16 uint32 void") ∷ here (codes "*") ∷ [], POINTER.now) ∷
    -- `y = *p;`, `f(&x);`
    (before (codes "; { } = ( , return") ∷ here (codes "* &") ∷ [], POINTER.now) ∷
    -- `p->x`
    (before (codes "-") ∷ here (codes ">") ∷ [], POINTER.now) ∷
    -- `public uint32 k = 3;`
    (part Outside ∷ two_before types ∷ here (codes "= ; [ ,") ∷ [], GLOBAL.now) ∷
    -- `public uint32[4] k = ..`, `public uint32[4] f()`
    (part Outside ∷ before types ∷ here (codes "[") ∷ [], GLOBAL.now) ∷
    -- `public mut uint32 k = 3;`
    (part Outside ∷ before (codes "public secret") ∷ here (codes "mut") ∷ [], GLOBAL.now) ∷
    -- `secret uint32 a[4]`
    (two_before types ∷ here (codes "[") ∷ [], LENGTH.now) ∷
    -- `void f(secret mut uint32 x)`
    (part Brackets ∷ two_before (codes "mut") ∷ before types ∷ [], MUTABLE_WORD.now) ∷
    -- `secret uint32 x;`
    (part Body ∷ two_before types ∷ here (codes ";") ∷ [], FIRST_VALUE.now) ∷
    -- `secret uint32 x, y;`
    (part Body ∷ two_before types ∷ here (codes ",") ∷ [], ONE_VARIABLE.now) ∷
    -- `secret uint32 x = 1, y = 2;`
    (part Body ∷ statement_begins (codes "public secret") ∷ here (codes ",") ∷ [], ONE_VARIABLE.now) ∷
    -- `uint32 x = 1;`, `void f(uint32 x)`
    (before (codes " ; { } ( , export") ∷ here (codes "mut bool uint8 uint16 uint32") ∷ [], LABEL.now) ∷
    -- `secret uint32 to = 1;`
    (before types ∷ here keywords ∷ [], KEYWORD.now) ∷
    -- `to = 1;`
    (before statement_ends ∷ here (codes "from to select") ∷ [], KEYWORD.now) ∷
    -- `x >>> 7`
    (before (codes ">>") ∷ here (codes ">") ∷ [], UNSIGNED_SHIFT.now) ∷
    -- `x <<< n`
    (before (codes "<<<") ∷ [], ROTATION.now) ∷
    -- `x <<< 7 + y`
    (two_before (codes "<<<") ∷ here (codes "+ - * / %") ∷ [], ROTATED.now) ∷
    -- `if (c) y = x;`, `for (..) y = x;`
    (part Body ∷ statement_begins (codes "if else for") ∷ before (codes ")") ∷ [], BRACES.now) ∷
    -- `else y = x;`
    (before (codes "else") ∷ [], BRACES.now) ∷
    -- `y = 1 + f(x);`, `return f(x);`
    (two_before before_operands ∷ here (codes "(") ∷ [], CALL.now) ∷
    -- `y = f(x) + 1;`
    (part Body ∷ before (codes ")") ∷ here operators ∷ [], CALL.now) ∷
    -- `x < y < z`
    (two_before comparisons ∷ here comparisons ∷ [], COMPARISON.now) ∷
    -- `c = f(x) == 1;`
    (before (codes ")") ∷ here comparisons ∷ [], COMPARISON.now) ∷
    -- `x = y = 1;`
    (part Body ∷ two_before (codes "=") ∷ here (codes "=") ∷ [], EQUALS.now) ∷
    -- `if (x = 1)`
    (
      part Brackets ∷ statement_begins (codes "if else") ∷ two_before (codes "( && || !") ∷ here (codes "=") ∷ [],
      EQUALS.now,
    ) ∷
    -- `if (a[0] = 1)`
    (part Brackets ∷ statement_begins (codes "if else") ∷ before (codes "]") ∷ here (codes "=") ∷ [], EQUALS.now) ∷
    -- `};`
    (before statement_ends ∷ here (codes ";") ∷ [], SEMICOLON.now) ∷
    []

-- words have a blank between them
abbrev pub is_one_of : List ℕ → List ℕ → Bool
is_one_of words text = list_any (λ word. bytes_eq word text) (slice_split (λ byte. byte == 32) words)

abbrev pub is_part : Region → Region → Bool
is_part Outside Outside = true
is_part Body Body = true
is_part Brackets Brackets = true
is_part one other = false

abbrev pub holds : Spot → Clue → Bool
holds s (part region) = is_part region s.region
holds s (statement_begins words) = is_one_of words (statement_start s)
holds s (two_before words) = is_one_of words s.second
holds s (before words) = is_one_of words s.before
holds s (here words) = is_one_of words s.here
holds s (behind words) = is_one_of words s.next

abbrev pub fits : Spot → Habit → Bool
fits s habit = list_all (holds s) habit.0

-- what to write instead of the first habit that fits
abbrev pub advice_for : Spot → Option (List ℕ)
advice_for s = option_map (λ habit. habit.1) (find (fits s) habits)

-- the tokens are those of the source up to its end or to the first bad character or number; one that is too long has
-- none
pub data Advises (source : List ℕ) (at : ℕ) : Option (List ℕ) → Type 0 where
  by_tokens : {tokens : List Lexeme} {end : TokensEnding} → Lexes source tokens end
      → Advises source at (advice_for (spot_around at tokens))
  too_long : source_limit < length source → Advises source at None
