-- What an image gives on arguments is what its source means, and its lists are short.
use Rattle.std.proofs.Common.{◌≡◌, ◌≢◌, inl, inr, ℕ, ◌+◌, ◌<◌, ◌≤◌, zero, suc, Bool, true, nat_le, List, [], ◌∷◌}
use Rattle.std.proofs.Common.{◌++◌, length, All, Option, Some, None, Result, Ok, Err, refl, sym, ap, subst, ◌∙◌}
use Rattle.std.proofs.Common.{arith}
use Rattle.std.specs.List.{AllByRecursion}
use Rattle.std.proofs.lemmas.Bool.{and_parts}
use Rattle.std.proofs.lemmas.Bool.Decides.{nat_tests}
use Rattle.std.proofs.lemmas.List.Elements.{All-from_recursion}
use Rattle.image_reports.specs.Below.{AreSlots, AreWithin, Arg, array_in, arrays_in, ByteMap, element_bytes, Fields}
use Rattle.image_reports.specs.Below.{FixedArray, Form, frame_base, is_length, IsImage, Memory, MutableArray}
use Rattle.image_reports.specs.Below.{numbers_at, Observation, params_of, ProcedureTree, Profile, ProgramTree}
use Rattle.image_reports.specs.Below.{Results, results_in, RunFault, SingleWord, Slot, slot_end, Stop, Stopped}
use Rattle.hepurita.specs.Answers.{Builds, IsTheOutcome}
use Rattle.hepurita.specs.Executed.{Executed, refused, out_of_memory, ran, answer_at}
use Rattle.compilation.specs.declared.optimised.Optimisation.{Optimisation}
use Rattle.language.specs.Limits.{most_elements}
use Rattle.rv_machine.specs.declared.stops.Stop.TheVariants.{Ecall, Break, Illegal, AccessFault, Misaligned, Budget}
use Rattle.rv_machine.specs.declared.stops.Stop.TheVariants.{RecorderRefused}
use Rattle.image_reports.specs.vectors.Spelled.{lists_of, returned_list}
use Rattle.image_reports.specs.vectors.Verdicts.{IsImageOf}
use Rattle.image_reports.proofs.vectors_lemmas.Below.{spelled}

-- the law of the crate below
abbrev pub GivesMeaning : Type 0
GivesMeaning = (optimisation : Optimisation) (profile : Profile) (text bytes : List ℕ) (program : ProgramTree)
    (before : List ProcedureTree) (export : ProcedureTree) (image : Fields) (args : List Arg) (keeps : Bool)
    (list after : List Observation) (answer : Result Results RunFault)
    → Builds optimisation profile text bytes program before export image → AreWithin (params_of image) args
    → Executed image args keeps list answer after → IsTheOutcome program args answer

pub meant : GivesMeaning
    → (program : ProgramTree) (image : Fields) (args : List Arg) (keeps : Bool) (list after : List Observation)
    (answer : Result Results RunFault) → IsImageOf program image → AreWithin (params_of image) args
    → Executed image args keeps list answer after → IsTheOutcome program args answer
meant law program image args keeps list after answer is within executed =
    let source = is.3 in
    let built = spelled is.0 is.1 is.2 program source.before source.export image source.compilation in
    law is.0 is.1 is.2 built.0 program source.before source.export image args keeps list after answer built.1 within
    executed

-- where the recorder does not refuse, a run fails when out of memory alone
abbrev failing : RunFault → Result Results RunFault
failing fault = Err fault

pub only_memory : (program : ProgramTree) (args : List Arg) (fault : RunFault)
    → IsTheOutcome program args (failing fault) → failing fault ≢ failing (Stopped RecorderRefused) → fault ≡ Memory
only_memory program args fault (inl is) calm = is
only_memory program args fault (inr is) calm = absurd (calm (ap failing is))

-- ---- the lists are short
abbrev pub IsShort : List ℕ → Type 0
IsShort list = length list < 65536

length-numbers_at : (bytes : ByteMap) (size at n : ℕ) → length (numbers_at bytes size at n) ≡ n
length-numbers_at bytes size at zero = refl
length-numbers_at bytes size at (suc n) = ap suc (length-numbers_at bytes size (at + size) n)

elements_few : (n : ℕ) → is_length MutableArray n ≡ true → n < 65536
elements_few n is = let both = and_parts (nat_le 1 n) (nat_le n most_elements) is in
    let few : n ≤ most_elements = grind (arith, nat_tests, both.1) in omega (arith, few)

array_short : (frame : ℕ) (bytes : ByteMap) (form : Form) (slot : Slot) (rest : List (List ℕ))
    → is_length form slot.param.length ≡ true → AllByRecursion IsShort rest
    → AllByRecursion IsShort (array_in frame bytes form slot ++ rest)
array_short frame bytes SingleWord slot rest is short = short
array_short frame bytes FixedArray slot rest is short = short
array_short frame bytes MutableArray slot rest is short = (
  subst (λ n. n < 65536)
      (sym (length-numbers_at bytes (element_bytes slot.param.kind) (frame + slot.offset) slot.param.length))
      (elements_few slot.param.length is),
  short,
)

arrays_short : (frame : ℕ) (bytes : ByteMap) (low : ℕ) (slots : List Slot) → AreSlots low slots
    → AllByRecursion IsShort (arrays_in frame bytes slots)
arrays_short frame bytes low [] are = tt
arrays_short frame bytes low (slot ∷ slots) are =
    array_short frame bytes slot.param.form slot (arrays_in frame bytes slots) are.0.length
    (arrays_short frame bytes (slot_end slot) slots are.1)

returned_short : (returned : Option ℕ) (rest : List (List ℕ)) → AllByRecursion IsShort rest
    → AllByRecursion IsShort (returned_list returned ++ rest)
returned_short None rest short = short
returned_short (Some word) rest short = (omega arith, short)

-- an outcome is what the frame holds at the end
at_end : (frame : ℕ) (image : Fields) (stop : Stop) (bytes : ByteMap) (outcome : Results)
    → Ok outcome ≡ answer_at frame image stop bytes → outcome ≡ results_in frame image bytes
at_end frame image Ecall bytes outcome is = cc
at_end frame image Break bytes outcome is = cc
at_end frame image Illegal bytes outcome is = cc
at_end frame image AccessFault bytes outcome is = cc
at_end frame image Misaligned bytes outcome is = cc
at_end frame image Budget bytes outcome is = cc
at_end frame image RecorderRefused bytes outcome is = cc

by_answer : (image : Fields) (args : List Arg) (keeps : Bool) (list after : List Observation) (outcome : Results)
    (answer : Result Results RunFault) → IsImage image → Executed image args keeps list answer after
    → Ok outcome ≡ answer → All IsShort (lists_of outcome)
by_answer image args keeps list after outcome _ allowed (refused some) e = cc
by_answer image args keeps list after outcome _ allowed (out_of_memory none) e = cc
by_answer image args keeps list after outcome answer allowed (ran {stop} {end} none run is) e =
    let same = at_end frame_base image stop end.bytes outcome (e ∙ is) in
    rw same (All-from_recursion IsShort (lists_of (results_in frame_base image end.bytes))
    (returned_short (results_in frame_base image end.bytes).returned _
    (arrays_short frame_base end.bytes 0 image.slots allowed.slots)))

pub lists_short : (image : Fields) (args : List Arg) (keeps : Bool) (list after : List Observation)
    (outcome : Results) → IsImage image → Executed image args keeps list (Ok outcome) after
    → All IsShort (lists_of outcome)
lists_short image args keeps list after outcome allowed executed =
    by_answer image args keeps list after outcome (Ok outcome) allowed executed refl
