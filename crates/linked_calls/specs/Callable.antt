-- The linked call: a caller that keeps the calling convention gets what the source means, in an exact number of steps
-- around those of the body, and its secrets make no difference to what an observer sees.
use Rattle.std.specs.Prelude.{◌≡◌, ℕ, suc, ◌+◌, ◌-◌, ◌*◌, ◌%◌, ◌<◌, List, length, None}
use Rattle.language.specs.arguments.Agreement.{Agree}
use Rattle.language.specs.arguments.PublicResults.{AgreeInPublic}
use Rattle.linked_calls.specs.Below.{Arg, MachineCode, Fields, goes_on, IsImage, LeadsWithin, moved_to, Observation}
use Rattle.linked_calls.specs.Below.{observed, params_of, Results, State, Step}
use Rattle.compilation.specs.Needs.{Needs}
use Rattle.hepurita.specs.Compiled.{IsCompiled}
use Rattle.hepurita.specs.Linked.{StartsAnywhere}
use Rattle.hepurita.specs.Meant.{Means}
use Rattle.language.specs.Tree.{ProcedureTree, ProgramTree}
use Rattle.linked_calls.specs.Called.{IsOfCall, IsLeft}
use Rattle.linked_calls.specs.Calls.{CallSite, IsSite, IsCalled, arguments_of}
use Rattle.linked_calls.specs.FunctionCode.{shared_tail, up_to_last}
use Rattle.linked_calls.specs.Sections.{around_steps}
use Rattle.linked_calls.specs.declared.pace.Pace.{Pace}
use Rattle.linked_calls.specs.declared.pace.Pace.TheVariants.{Fast, Small}

-- where the instruction stands that goes back to the caller: the last before the copier, or that of the shared tail
abbrev pub return_at : Fields → Needs → Pace → CallSite → ℕ
return_at image needs Fast site = site.entry + 4 * (up_to_last image needs Fast - 1)
return_at image needs Small site = site.tail + 4 * (length shared_tail - 1)

-- a call from this state: all its steps but the last, which jumps back, and that one. What it shows is this list
pub record CallReturns (program : ProgramTree) (image : Fields) (needs : Needs) (pace : Pace) (code : MachineCode)
    (site : CallSite) (s : State) (list : List Observation) : Type 0 where
  pub results : Results
  pub means : Means program (arguments_of image site s) results
  pub step_count : ℕ
  pub end : State
  -- each step makes an access of the call, by the stack pointer as it is then, or none
  pub leads : LeadsWithin code (IsOfCall image site) step_count s list end
  -- those of the body: ECALL would be one step more
  pub body_steps : ℕ
  pub within_steps : body_steps < image.max_steps
  pub counted : suc step_count ≡ around_steps image needs pace site.pointers + body_steps
  pub at_last : end.pc ≡ return_at image needs pace site
  pub left : IsLeft image site s.regs s.bytes results end
  -- a caller of code without compressed instructions stands at a multiple of 4
  pub goes_back : s.regs 1 % 4 ≡ 0 → Step code end (goes_on (observed end None) (moved_to end (s.regs 1)))

-- the function of an image can be called from where it stands
pub record IsCallable (program : ProgramTree) (p : ProcedureTree) (image : Fields) (needs : Needs) (pace : Pace)
    (code : MachineCode) (site : CallSite) : Type 0 where
  -- one list for each list of arguments, whatever the rest of the state
  pub shown : List Arg → List Observation
  -- results: from every state in which it is called, whatever words it is given
  pub runs : (s : State) → IsCalled image site s
      → CallReturns program image needs pace code site s (shown (arguments_of image site s))
  -- equal leakage: on arguments that agree it is one list
  pub equal_leakage : (args args' : List Arg) → Agree (params_of image) args args' → shown args ≡ shown args'
  -- and what is left is one result and one list of `mut` arrays, where these are public
  pub public_results : (args args' : List Arg) (results results' : Results) → Agree (params_of image) args args'
      → Means program args results → Means program args' results'
      → AgreeInPublic (params_of image) p.result results results'

-- the function of each compiled procedure can be called, at either pace and from wherever it stands. It zeroes the
-- words of its frame from which on the body may start in whatever the stack holds
abbrev pub CallsAreLinked : Type 0
CallsAreLinked =
    (program : ProgramTree) (before : List ProcedureTree) (p : ProcedureTree) (image : Fields) (needs : Needs)
    (pace : Pace)
    → IsCompiled program before p image
    → StartsAnywhere program p image needs
    → IsImage image
    → (code : MachineCode) (site : CallSite)
    → IsSite image needs pace code site
    → IsCallable program p image needs pace code site
