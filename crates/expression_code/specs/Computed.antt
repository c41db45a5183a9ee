-- What the machine does on the code of an expression, wherever that stands and whichever the place of its value: the
-- value is then where the expression is, in the home of a variable or in its place, the homes and the temporaries of
-- lower places stay, and what is shown is decided by what the code's observer sees of the path.
use Rattle.std.specs.Prelude.{◌≡◌, ℕ, ◌+◌, ◌*◌, ◌%◌, ◌^◌, ◌<◌, ◌≤◌, true, List, [], length, Option, None, Some, All}
use Rattle.std.specs.Prelude.{is_some, slice_get, slice_index}
use Rattle.expression_code.specs.Allocation.{IsAllocation, home_of, mirror_of, temporary, slots_to}
use Rattle.expression_code.specs.Inside.{IsInside}
use Rattle.expression_code.specs.Layout.{TermLayout, bytes_of, place_of, result_offset}
use Rattle.expression_code.specs.Registers.{frame_register}
use Rattle.expression_code.specs.TermCode.{expr_code, operand}
use Rattle.expression_code.specs.declared.allocation.Mirror.{Mirror}
use Rattle.expression_code.specs.Below.{AreFine, element_bytes, MachineCode, Fits, FlatVariable, height_of, Instr}
use Rattle.expression_code.specs.Below.{Leads}
use Rattle.expression_code.specs.Below.{number_at, numbers_in, Observation, Path, path_in, seen, State, term_nodes}
use Rattle.expression_code.specs.Below.{TermTree}
use Rattle.expression_code.specs.Below.{types_of, value_in, Values}
use Rattle.expression_code.specs.declared.locations.Location.{Location}
use Rattle.expression_code.specs.declared.locations.Location.TheVariants.{InRegister, InSlot}
pub use Rattle.expression_code.specs.program_logic.Placed.{Placed}

-- where code begins, where the frame lies and how many bytes it has, what is laid out in it, and the place that the
-- value comes into
pub record Site : Type 0 where
  pub code : MachineCode
  pub start : ℕ
  pub frame : ℕ
  pub size : ℕ
  pub layout : TermLayout
  pub place : ℕ

abbrev pub code_of : Site → TermTree → List Instr
code_of site e = expr_code site.layout site.place e

-- the expression's code stands there, and the slots of its temporaries lie in the frame, behind the variables and the
-- result
pub record IsSiteOf (e : TermTree) (site : Site) : Type 0 where
  pub placed : Placed site.code site.start (code_of site e)
  pub allocated : IsAllocation site.layout.declared site.layout.allocation
  pub even : site.frame % 4 ≡ 0
  pub ends : site.frame + site.size < 2 ^ 32
  pub aligned : site.layout.free % 4 ≡ 0
  pub above : result_offset site.layout.declared + 4 ≤ site.layout.free
  pub room : site.layout.free + 4 * slots_to site.layout.allocation.count (height_of e + site.place) ≤ site.size

-- the word at a location
abbrev pub word_in : Site → State → Location → Option ℕ
word_in site s (InRegister register) = Some (s.regs register)
word_in site s (InSlot offset) = number_at s.bytes 4 (site.frame + offset)

-- the temporary of a place
abbrev pub temporary_in : Site → State → ℕ → Option ℕ
temporary_in site s place = word_in site s (temporary site.layout.allocation.count site.layout.free place)

-- x2 has the frame's base, the frame's bytes are data, and the variables have these values, which are within their
-- kinds, in their homes or in the frame, and each mirror follows its variable
pub record Has (site : Site) (m : Values) (s : State) : Type 0 where
  pub base : s.regs frame_register ≡ site.frame
  pub data_there : (o : ℕ) → o < site.size → is_some (s.bytes (site.frame + o)) ≡ true
  pub fits : Fits (types_of site.code.profile site.layout.declared) m
  pub homes_there : (x home : ℕ) (d : FlatVariable) → slice_get site.layout.declared x ≡ Some d
      → home_of site.layout.allocation.homes x ≡ Some home → s.regs home ≡ slice_index (m x) 0
  pub variables_there : (x : ℕ) (d : FlatVariable) (i : ℕ) → slice_get site.layout.declared x ≡ Some d
      → home_of site.layout.allocation.homes x ≡ None → i < numbers_in d.elements
      → number_at s.bytes (bytes_of d) (site.frame + place_of site.layout.declared x d i) ≡ Some (slice_index (m x) i)
  pub mirrors_there : (x home : ℕ) (mirror : Mirror) → mirror_of site.layout.allocation x ≡ Some mirror
      → home_of site.layout.allocation.homes x ≡ Some home
      → s.regs mirror.register ≡ (element_bytes mirror.kind * s.regs home + site.frame) % 2 ^ 32

-- a run from a state to behind the code, which shows this list
pub record RunsThrough (e : TermTree) (site : Site) (m : Values) (s : State) (list : List Observation) : Type 0 where
  pub step_count : ℕ
  pub end : State
  pub leads : Leads site.code step_count s list end
  pub few : step_count ≤ 16 * term_nodes e
  pub inside : All (λ (o : Observation). IsInside site.frame site.size o.event) list
  pub behind : end.pc ≡ site.start + 4 * length (code_of site e)
  pub value : word_in site end (operand site.layout site.place e) ≡ Some (value_in m e)
  pub homes : (x home : ℕ) → home_of site.layout.allocation.homes x ≡ Some home → end.regs home ≡ s.regs home
  pub lower : (place : ℕ) → place < site.place → temporary_in site end place ≡ temporary_in site s place
  pub base : end.regs frame_register ≡ site.frame
  pub kept : (o : ℕ) → o < site.layout.free → end.bytes (site.frame + o) ≡ s.bytes (site.frame + o)

-- one list for what is seen of each path, whatever the values
pub record IsComputed (e : TermTree) (site : Site) : Type 0 where
  pub shown : Path → List Observation
  pub runs : (m : Values) (s : State) → s.pc ≡ site.start → Has site m s → AreFine [] (path_in m e)
      → RunsThrough e site m s (shown (seen site.code.profile (path_in m e)))
