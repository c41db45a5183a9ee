-- Words that statements put byte by byte: the bytes of a variable one after the other, the lowest first, into bytes of
-- the frame that follow each other. In optimised code they are one word that is stored.
use Rattle.std.specs.Prelude.{ℕ, ◌+◌, ◌/◌, ◌%◌, ◌==◌, ◌&&◌, Bool, List, nat_lt, Option, None, Some, if◌then◌else◌}
use Rattle.codegen.specs.declared.word_puts.BytePut.{BytePut}
use Rattle.codegen.specs.declared.word_puts.WordByte.{WordByte}
use Rattle.codegen.specs.declared.word_puts.WordPut.{WordPut}
use Rattle.expression_code.specs.Allocation.{Allocation}
use Rattle.expression_code.specs.Layout.{Frame}
use Rattle.expression_code.specs.NearElements.{kind_at, near_element}
use Rattle.expression_code.specs.NumberRows.{number_of}
use Rattle.codegen.specs.private.StoredValues.{stored_value}
use Rattle.codegen.specs.private.Words.{assign_code}
use Rattle.codegen.specs.Below.{binary, first, FlatVariable, Instr, Kind, put, ShiftRight, StraightBlock, StraightTree}
use Rattle.codegen.specs.Below.{TermTree, Uint8, variable, W32}

-- the lowest byte of a variable that is shifted to the right by so many bits, where these are whole bytes
abbrev pub moved_down : TermTree → Option ℕ → Option WordByte
moved_down (variable x) (Some amount) =
    if amount % 8 == 0 && nat_lt amount 32 then Some (record { variable = x; place = amount / 8 }) else None
moved_down e amount = None

-- the byte of a variable that is the lowest one of an expression
abbrev pub lowest_byte : TermTree → Option WordByte
lowest_byte (variable x) = Some (record { variable = x; place = 0 })
lowest_byte (binary source ShiftRight W32 word amount) = moved_down word (number_of amount)
lowest_byte e = None

-- that byte put at an offset that is near, into an array of bytes
abbrev pub put_at : Kind → Option ℕ → Option WordByte → Option BytePut
put_at Uint8 (Some offset) (Some byte) =
    Some (record { offset = offset; variable = byte.variable; place = byte.place })
put_at kind offset byte = None

-- the byte that a statement puts
abbrev pub byte_put : List FlatVariable → Allocation → StraightTree → Option BytePut
byte_put declared allocation (put None source x size index value) =
    put_at (kind_at declared x) (near_element declared allocation x index)
    (lowest_byte (stored_value allocation (kind_at declared x) value))
byte_put declared allocation statement = None

-- whether a byte is the next one of the same variable, and put behind the other
abbrev pub is_next : BytePut → BytePut → Bool
is_next low high =
    low.offset + 1 == high.offset && (low.variable == high.variable && low.place + 1 == high.place)

-- whether four bytes are those of a variable, the lowest first, in a word of the frame
abbrev pub are_a_word : BytePut → BytePut → BytePut → BytePut → Bool
are_a_word a b c d = (a.place == 0 && a.offset % 4 == 0) && (is_next a b && (is_next b c && is_next c d))

-- the word that four bytes are
abbrev pub word_of_bytes : Option BytePut → Option BytePut → Option BytePut → Option BytePut → Option WordPut
word_of_bytes (Some a) (Some b) (Some c) (Some d) =
    if are_a_word a b c d then Some (record { offset = a.offset; variable = a.variable }) else None
word_of_bytes a b c d = None

-- the word that the first four statements of a block put
abbrev pub word_put : List FlatVariable → Allocation → StraightBlock → Option WordPut
word_put declared allocation (first a (first b (first c (first d rest)))) =
    word_of_bytes (byte_put declared allocation a) (byte_put declared allocation b) (byte_put declared allocation c)
    (byte_put declared allocation d)
word_put declared allocation block = None

-- that variable into that word of the frame
abbrev pub word_code : Frame → WordPut → List Instr
word_code layout word = assign_code layout (variable word.variable) word.offset
