-- Which symbol a name means, and which function or object an address lies in (gABI, chapter 4, "Symbol Table":
-- STB_LOCAL, STT_NOTYPE, STT_OBJECT, STT_FUNC, SHN_UNDEF).
use Rattle.std.specs.Prelude.{ℕ, ◌+◌, ◌-◌, ◌/◌, ◌%◌, Bool, not, ◌&&◌, List, [], ◌∷◌, ◌++◌, drop, Option, None, Some}
use Rattle.std.specs.Prelude.{find, nat_eq, nat_le, nat_lt, ◌==◌, if◌then◌else◌}
use Rattle.std.specs.List.{starts_with}
use Rattle.std.specs.Option.{option_or}
use Rattle.elf.specs.Reading.{Executable}
use Rattle.elf.specs.declared.symbol.Symbol.{Symbol}
use Rattle.elf.specs.declared.lookup.Wanted.{Wanted}
use Rattle.elf.specs.declared.lookup.Wanted.TheVariants as wanted
use Rattle.elf.specs.declared.symbol.Object.{Object}
use Rattle.elf.specs.declared.symbol.Position.{Position}

-- it is defined in this file, and of type STT_FUNC
abbrev pub is_function : Symbol → Bool
is_function symbol = not (symbol.section == 0) && (symbol.info % 16 == 2)

-- it is defined in this file, of type STT_OBJECT, and has a size
abbrev pub is_object : Symbol → Bool
is_object symbol = not (symbol.section == 0) && (symbol.info % 16 == 1) && nat_lt 0 symbol.size

-- it is defined in this file, and names an address: its type is STT_NOTYPE, STT_OBJECT or STT_FUNC
abbrev pub is_address : Symbol → Bool
is_address symbol = not (symbol.section == 0) && nat_le (symbol.info % 16) 2

-- it is of the kind that a look-up by name is after
abbrev pub is_wanted : Wanted → Symbol → Bool
is_wanted wanted.Address symbol = is_address symbol
is_wanted wanted.Function symbol = is_function symbol
is_wanted wanted.Object symbol = is_object symbol

-- its binding is not STB_LOCAL
abbrev pub is_shared : Symbol → Bool
is_shared symbol = not (symbol.info / 16 == 0)

-- the name stands in the strings where it should, with a byte 0 behind it
abbrev pub is_named : List ℕ → List ℕ → Symbol → Bool
is_named strings name symbol = starts_with nat_eq (drop symbol.name strings) (name ++ 0 ∷ [])

-- it is of the kind that is wanted, and has the name
abbrev pub fits : Wanted → List ℕ → List ℕ → Symbol → Bool
fits wanted strings name symbol = is_wanted wanted symbol && is_named strings name symbol

-- of the symbols that fit the first that is not local, else the first
abbrev pub preferred : (Symbol → Bool) → List Symbol → Option Symbol
preferred test symbols =
    option_or (find (λ symbol. test symbol && is_shared symbol) symbols) (find test symbols)

abbrev pub address_in : Option Symbol → Option ℕ
address_in None = None
address_in (Some symbol) = Some symbol.value

-- the address of the function of a name
abbrev pub function_named : Executable → List ℕ → Option ℕ
function_named program name =
    address_in (preferred (fits wanted.Function program.strings name) program.symbols)

-- the address of a name, whatever it is the name of
abbrev pub address_named : Executable → List ℕ → Option ℕ
address_named program name =
    address_in (preferred (fits wanted.Address program.strings name) program.symbols)

abbrev pub object_in : Option Symbol → Option Object
object_in None = None
object_in (Some symbol) = Some (record { address = symbol.value; size = symbol.size })

-- the address and the size of the object of a name
abbrev pub object_named : Executable → List ℕ → Option Object
object_named program name =
    object_in (preferred (fits wanted.Object program.strings name) program.symbols)

-- the bytes of the strings from a place on, up to a byte 0 or the end
abbrev pub up_to_zero : List ℕ → List ℕ
up_to_zero [] = []
up_to_zero (byte ∷ bytes) = if byte == 0 then [] else byte ∷ up_to_zero bytes

abbrev pub name_at : List ℕ → ℕ → List ℕ
name_at strings place = up_to_zero (drop place strings)

-- it is of the kind that is wanted, and the address is one of its bytes
abbrev pub covers : Wanted → ℕ → Symbol → Bool
covers wanted address symbol =
    is_wanted wanted symbol && nat_le symbol.value address && nat_lt address (symbol.value + symbol.size)

-- how an address is written by the symbols: the name of what it lies in, and how far behind its beginning
abbrev pub place_in : List ℕ → ℕ → Option Symbol → Option (List ℕ × ℕ)
place_in strings address None = None
place_in strings address (Some symbol) = Some (name_at strings symbol.name, address - symbol.value)

-- the first function that an address lies in
abbrev pub function_at : Executable → ℕ → Option (List ℕ × ℕ)
function_at program address =
    place_in program.strings address (find (covers wanted.Function address) program.symbols)

-- the first object that an address lies in
abbrev pub object_at : Executable → ℕ → Option (List ℕ × ℕ)
object_at program address =
    place_in program.strings address (find (covers wanted.Object address) program.symbols)

-- a position without where its name lies
abbrev pub position_of : Option Position → Option (List ℕ × ℕ)
position_of None = None
position_of (Some position) = Some (position.name.now, position.offset)
