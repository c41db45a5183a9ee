-- How addresses of a program, and those of the stack, are written.
use Rattle.std.specs.Prelude.{ℕ, ◌-◌, ◌&&◌, Bool, false, List, [], ◌∷◌, ◌++◌, codes, Option, None, Some, nat_le}
use Rattle.std.specs.Prelude.{if◌then◌else◌, nat_lt}
use Rattle.std.specs.Fmt.{digits}
use Rattle.std.specs.List.{list_all}
use Rattle.elf_reports.specs.Below.{Executable, function_at, object_at, stack_begin, stack_end}

-- a character that shows itself: `!` to `~` of ASCII
abbrev pub is_graphic : ℕ → Bool
is_graphic character = nat_le 33 character && nat_le character 126

-- a function and how far behind its beginning, as `f+0x24`; else the address, as `0x80000024`. A name with other
-- characters than graphic ones is not written
abbrev pub position_text : ℕ → Option (List ℕ × ℕ) → List ℕ
position_text address None = codes "0x" ++ digits 16 false address
position_text address (Some (name, offset)) =
    if list_all is_graphic name then name ++ codes "+0x" ++ digits 16 false offset
    else codes "0x" ++ digits 16 false address

abbrev pub address_text : Executable → ℕ → List ℕ
address_text program address = position_text address (function_at program address)

-- the calls that lead somewhere, the last one first
abbrev pub callers_text : Executable → List ℕ → List ℕ
callers_text program [] = []
callers_text program (call ∷ calls) = codes ", called from " ++ address_text program call ++ callers_text program calls

-- where a step is made, and the calls that lead there
abbrev pub place_line : Executable → ℕ → List ℕ → List ℕ
place_line program pc calls = codes "in " ++ address_text program pc ++ callers_text program calls ++ codes "\n"

-- an object and how far behind its beginning, as `, key+0x4`; nothing where there is none, or where its name has other
-- characters than graphic ones
abbrev pub part_text : Option (List ℕ × ℕ) → List ℕ
part_text None = []
part_text (Some (name, offset)) =
    if list_all is_graphic name then codes ", " ++ name ++ codes "+0x" ++ digits 16 false offset else []

abbrev pub object_text : Executable → ℕ → List ℕ
object_text program address = part_text (object_at program address)

-- how far before the end of a stack of this size an address is, as `, stack-0x10`; nothing where it is not in it
abbrev pub stack_text : ℕ → ℕ → List ℕ
stack_text size address =
    if nat_le (stack_begin size) address && nat_lt address stack_end
    then codes ", stack-0x" ++ digits 16 false (stack_end - address) else []

-- what lies at an address that is read
abbrev pub read_text : Executable → ℕ → ℕ → List ℕ
read_text program stack address = object_text program address ++ stack_text stack address
