-- Two calls on the same values agree.
use Rattle.std.proofs.Common.{◌≡◌, ◌≢◌, inl, inr, ℕ, Bool, true, false, List, [], ◌∷◌, ◌++◌, Some, Result, Ok}
use Rattle.std.proofs.Common.{Err, map, refl, sym, ap, ◌∙◌, append-nil}
use Rattle.std.proofs.lemmas.Option.{same_Some}
use Rattle.hepurita.specs.Below.{AreWithin, Arg, ArgumentFault, Array, Compares, Differ, entries_of, Entry, Fields}
use Rattle.hepurita.specs.Below.{FixedArray, Form, HasShape, kept, MutableArray, Observation, Pairing, Param}
use Rattle.hepurita.specs.Below.{RecorderRefused, Results, Same, SingleWord, State, Stop, Word, words_of}
use Rattle.hepurita.proofs.Below.{differ-apart, first-unique, Runs-determined, Ran-determined, Ran-beginning}
use Rattle.hepurita.specs.Bases.{frame_base}
use Rattle.hepurita.specs.Executed.{Executed, refused, out_of_memory, ran, answer_at, WantsMemory}
use Rattle.hepurita.specs.Paired.{Paired, Observed}
use Rattle.hepurita.specs.Paired as pairs
use Rattle.hepurita.specs.declared.fault.RunFault.{RunFault}
use Rattle.hepurita.specs.declared.fault.RunFault.TheVariants.{Argument, Memory}

-- ---- execute

-- a run that does not want memory was not cut short
not_cut : (image : Fields) (stop : Stop) (end : State) (answer : Result Results RunFault)
    → answer ≡ answer_at frame_base image stop end.bytes → (WantsMemory answer → ⊥) → stop ≢ RecorderRefused
not_cut image stop end answer is calm cut =
    calm (inr (is ∙ ap (λ (s : Stop). answer_at frame_base image s end.bytes) cut))

-- and one that does was
cut : (image : Fields) (stop : Stop) (end : State) (answer : Result Results RunFault)
    → answer ≡ answer_at frame_base image stop end.bytes → WantsMemory answer → stop ≡ RecorderRefused
cut image RecorderRefused end answer is wants = refl
cut image stop end answer is (inl wants) = cc
cut image stop end answer is (inr wants) = cc

-- nothing was taken yet
begins : (keeps : Bool) (list seen : List Observation)
    → (rest : List Observation) × (kept keeps list seen ≡ list ++ rest)
begins true list seen = (seen, refl)
begins false list seen = ([], sym (append-nil list))

pub one_execution : (image : Fields) (args : List Arg) (keeps : Bool) (list one other : List Observation)
    (a b : Result Results RunFault) → Executed image args keeps list a one → Executed image args keeps list b other
    → (WantsMemory a → ⊥) → (WantsMemory b → ⊥) → (a ≡ b) × (one ≡ other)
one_execution image args keeps list one other a b (refused {fault} is) (refused {fault = fault'} also) calm calm' =
    (ap (λ (f : ArgumentFault). Err (Argument f.rule f.index)) (same_Some fault fault' (sym is ∙ also)), refl)
one_execution image args keeps list one other a b (out_of_memory none) then calm calm' = absurd (calm (inl refl))
one_execution image args keeps list one other a b then (out_of_memory none) calm calm' = absurd (calm' (inl refl))
one_execution image args keeps list one other a b (refused is) (ran none run answered) calm calm' = cc
one_execution image args keeps list one other a b (ran none run answered) (refused is) calm calm' = cc
one_execution image args keeps list one other a b (ran {stop} {end} none run answered)
    (ran {stop = stop'} {end = end'} none' run' answered') calm calm' =
    let same = Ran-determined keeps list run run' (not_cut image stop end a answered calm)
    (not_cut image stop' end' b answered' calm') in
    let stops : answer_at frame_base image stop end.bytes ≡ answer_at frame_base image stop' end.bytes =
    ap (λ (s : Stop). answer_at frame_base image s end.bytes) same.0 in
    let ends : answer_at frame_base image stop' end.bytes ≡ answer_at frame_base image stop' end'.bytes =
    ap (λ (t : State). answer_at frame_base image stop' t.bytes) same.1 in
    (answered ∙ stops ∙ ends ∙ sym answered', same.2)

pub begun_execution : (image : Fields) (args : List Arg) (keeps : Bool) (list one other : List Observation)
    (a b : Result Results RunFault) → Executed image args keeps list a one → Executed image args keeps list b other
    → (WantsMemory a → ⊥) → WantsMemory b → (rest : List Observation) × (one ≡ other ++ rest)
begun_execution image args keeps list one other a b (out_of_memory none) then calm wants = absurd (calm (inl refl))
begun_execution image args keeps list one other a b (refused is) (refused also) calm wants =
    ([], sym (append-nil list))
begun_execution image args keeps list one other a b (refused is) (out_of_memory none) calm wants = cc
begun_execution image args keeps list one other a b (refused is) (ran none run answered) calm wants = cc
begun_execution image args keeps list one other a b (ran none run answered) (refused is) calm wants = cc
begun_execution image args keeps list one other a b (ran none run answered) (out_of_memory none') calm wants =
    let more = begins keeps list run.0 in
    (more.0, run.2 ∙ more.1)
begun_execution image args keeps list one other a b (ran {stop} {end} none run answered)
    (ran {stop = stop'} {end = end'} none' run' answered') calm wants =
    Ran-beginning keeps list run run' (not_cut image stop end a answered calm)
    (cut image stop' end' b answered' wants)

-- ---- pair

-- what an observer sees of a run is one list
one_list : (image : Fields) (args : List Arg) (one other : List Observation) → Observed image args one
    → Observed image args other → one ≡ other
one_list image args one other (stop, (end, (run, calm))) (stop', (end', (run', calm'))) =
    (Runs-determined run run' calm calm').0

one_answer : (one other : List Entry) (a b : Pairing) → Compares one other a → Compares one other b → a ≡ b
one_answer one other Same Same is also = refl
one_answer one other Same (Differ place) is first = absurd (differ-apart one other place first is)
one_answer one other (Differ place) Same first is = absurd (differ-apart one other place first is)
one_answer one other (Differ place) (Differ place') first also =
    ap Differ (first-unique one other place place' first also)

pub one_comparison : (image : Fields) (one other : List Arg) (a b : Result Pairing RunFault)
    → Paired image one other a → Paired image one other b → a ≢ Err Memory → b ≢ Err Memory → a ≡ b
one_comparison image one other a b (pairs.refused {fault} is) (pairs.refused {fault = fault'} also) calm calm' =
    ap (λ (f : ArgumentFault). Err (Argument f.rule f.index)) (same_Some fault fault' (sym is ∙ also))
one_comparison image one other a b (pairs.out_of_memory none) then calm calm' = absurd (calm refl)
one_comparison image one other a b then (pairs.out_of_memory none) calm calm' = absurd (calm' refl)
one_comparison image one other a b (pairs.refused is) (pairs.compared none shown shown' compares) calm calm' = cc
one_comparison image one other a b (pairs.compared none shown shown' compares) (pairs.refused is) calm calm' = cc
one_comparison image one other a b (pairs.compared {seen = s} {seen' = t} {pairing = p} none shown shown' compares)
    (pairs.compared {seen = u} {seen' = v} {pairing = q} none' other_shown other_shown' compares') calm calm' =
    let left = one_list image one s u shown other_shown in
    let right = one_list image other t v shown' other_shown' in
    ap Ok (one_answer (entries_of u) (entries_of v) p q (rw (left, right) at compares) compares')

-- ---- read_args

one_argument : (form : Form) (n : ℕ) (one other : Arg) → HasShape form n one → HasShape form n other
    → words_of one ≡ words_of other → one ≡ other
one_argument SingleWord n (Word word) (Word word') shape shape' is = cc
one_argument SingleWord n (Word word) (Array words) shape shape' is = absurd shape'
one_argument SingleWord n (Array words) other shape shape' is = absurd shape
one_argument FixedArray n (Word word) other shape shape' is = absurd shape
one_argument FixedArray n (Array words) (Word word) shape shape' is = absurd shape'
one_argument FixedArray n (Array words) (Array words') shape shape' is = ap Array is
one_argument MutableArray n (Word word) other shape shape' is = absurd shape
one_argument MutableArray n (Array words) (Word word) shape shape' is = absurd shape'
one_argument MutableArray n (Array words) (Array words') shape shape' is = ap Array is

pub one_reading : (params : List Param) (one other : List Arg) → AreWithin params one → AreWithin params other
    → map (λ arg. Some (words_of arg)) one ≡ map (λ arg. Some (words_of arg)) other → one ≡ other
one_reading [] [] [] within within' is = refl
one_reading [] [] (arg ∷ args) within within' is = absurd within'
one_reading [] (arg ∷ args) other within within' is = absurd within
one_reading (param ∷ params) [] other within within' is = absurd within
one_reading (param ∷ params) (arg ∷ args) [] within within' is = absurd within'
one_reading (param ∷ params) (arg ∷ args) (arg' ∷ args') within within' is =
    let words : words_of arg ≡ words_of arg' = cc in
    let rest : map (λ arg. Some (words_of arg)) args ≡ map (λ arg. Some (words_of arg)) args' = cc in
    let first : arg ≡ arg' = one_argument param.form param.length arg arg' within.0.shape within'.0.shape words in
    let others : args ≡ args' = one_reading params args args' within.1 within'.1 rest in
    cc
