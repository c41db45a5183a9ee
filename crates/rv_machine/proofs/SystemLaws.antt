-- Laws of harts over one memory: the steps of a schedule follow one another, and what they show and where they end
-- are one.
use Rattle.std.proofs.Common.{◌≡◌, ◌≢◌, ℕ, zero, suc, ◌<◌, ◌+◌, Bool, true, false, is_some, List, [], ◌∷◌, ◌++◌, length}
use Rattle.std.proofs.Common.{map, set, take, drop, get_or, Option, Some, None, Result, Ok, Err, OnErr, refl, sym, ap}
use Rattle.std.proofs.Common.{◌∙◌, arith, append_assoc, append-nil, All}
use Rattle.std.specs.Prelude.{slice_get}
use Rattle.std.proofs.lemmas.List.{take_more, drop_more, take-append-drop}
use Rattle.std.proofs.lemmas.List.Elements.{All-drop, All-head, All-tail}
use Rattle.std.proofs.lemmas.Option.{same_Some}
use Rattle.rv_machine.specs.declared.observation.Observation.{Observation}
use Rattle.rv_machine.specs.declared.hart_recording.HartObservation.{HartObservation}
use Rattle.rv_machine.specs.declared.stops.Stop.{Stop}
use Rattle.rv_machine.specs.declared.stops.Stop.TheVariants.{RecorderRefused}
use Rattle.rv_machine.specs.Bytes.{ByteMap}
use Rattle.rv_machine.specs.HartRecording.{kept_of}
use Rattle.rv_machine.specs.RunningHarts.{Followed, CutShort}
use Rattle.rv_machine.specs.Leakage.{Done, went_on, stopped, refused, followed_by}
use Rattle.rv_machine.specs.Machine.{State, StepEnding, goes_on, stops, Step}
use Rattle.rv_machine.specs.System.{Member, System, MemberStep, rests, moves, ends, state_in, with_member, shown_by}
use Rattle.rv_machine.specs.System.{FollowsSchedule, done, steps_on, gone_on}
use Rattle.rv_machine.proofs.RunLaws.{Step-determined, goes_on-determined, goes_on≢stops}
use Rattle.rv_machine.proofs.Calls.{kept-append}
use Rattle.rv_machine.proofs.Shown.{first_alone}
use Rattle.rv_machine.proofs.TotalLaws.{step_of_state, step_stops}

-- what is there, and what is not
pub some_of : {A : Type 0} (o : Option A) → is_some o ≡ true → (x : A) × (o ≡ Some x)
some_of (Some x) is = (x, refl)
some_of None is = cc

pub none_of : {A : Type 0} (o : Option A) → is_some o ≡ false → o ≡ None
none_of (Some x) is = cc
none_of None is = refl

-- A step.

-- the step that one call made of a hart that had not stopped
pub member_step_made : (bytes : ByteMap) (m : Member) (t : State) (ending : StepEnding) (answer : Option Stop)
    (seen : List Observation) → m.stop ≡ None → Step m.code (state_in bytes m) ending
    → Done (state_in bytes m) ending answer t seen → answer ≢ Some RecorderRefused
    → MemberStep bytes m (followed_by (slice_get seen 0) []) t.bytes
    (record { code = m.code; pc = t.pc; regs = t.regs; stop = answer })
member_step_made bytes m t ending answer seen running step went_on calm = moves running step
member_step_made bytes m t ending answer seen running step (stopped {stop = stop}) calm =
    let brief = step_stops m.code (state_in bytes m) seen stop step in
    rw (first_alone seen [] brief.1 refl) (ends running step)
member_step_made bytes m t ending answer seen running step (refused shows) calm = absurd (calm refl)

-- every hart has a step
abbrev pub HasStep : ByteMap → Member → Type 0
HasStep bytes m =
    (seen : List Observation) × (bytes' : ByteMap) × (after : Member) × MemberStep bytes m seen bytes' after

member_step_of_ending : (bytes : ByteMap) (m : Member) (ending : StepEnding) → m.stop ≡ None
    → Step m.code (state_in bytes m) ending → HasStep bytes m
member_step_of_ending bytes m (goes_on o t) running step = (_, _, _, moves running step)
member_step_of_ending bytes m (stops seen stop) running step = (_, _, _, ends running step)

member_step_by : (bytes : ByteMap) (m : Member) (stop : Option Stop) → m.stop ≡ stop → HasStep bytes m
member_step_by bytes m (Some stop) is = ([], bytes, m, rests is)
member_step_by bytes m None is =
    let step = step_of_state m.code (state_in bytes m) in
    member_step_of_ending bytes m step.0 is step.1

-- and one
pub MemberStep-determined : {bytes b b' : ByteMap} {m n n' : Member} {seen seen' : List Observation}
    → MemberStep bytes m seen b n → MemberStep bytes m seen' b' n' → (seen ≡ seen') × (b ≡ b') × (n ≡ n')
MemberStep-determined (rests is) (rests js) = (refl, refl, refl)
MemberStep-determined (rests is) (moves none step) = cc
MemberStep-determined (rests is) (ends none step) = cc
MemberStep-determined (moves none step) (rests is) = cc
MemberStep-determined (ends none step) (rests is) = cc
MemberStep-determined {m = m} (moves none step) (moves nine other) =
    let same = goes_on-determined step other in
    (ap (λ x. x ∷ []) same.0, ap (λ (x : State). x.bytes) same.1, ap (gone_on m) same.1)
MemberStep-determined (moves none step) (ends nine other) = absurd (goes_on≢stops step other)
MemberStep-determined (ends none step) (moves nine other) = absurd (goes_on≢stops other step)
MemberStep-determined (ends none step) (ends nine other) = let e = Step-determined step other in (cc, refl, cc)

-- Members.

pub length-with_member : (members : List Member) (k : ℕ) (m : Member)
    → length (with_member members k m) ≡ length members
length-with_member [] k m = refl
length-with_member (other ∷ rest) zero m = refl
length-with_member (other ∷ rest) (suc k) m = ap suc (length-with_member rest k m)

pub map-with_member : {X : Type 0} (f : X → Member) (xs : List X) (k : ℕ) (x : X)
    → map f (set xs k x) ≡ with_member (map f xs) k (f x)
map-with_member f [] k x = refl
map-with_member f (other ∷ rest) zero x = refl
map-with_member f (other ∷ rest) (suc k) x = ap (λ ms. f other ∷ ms) (map-with_member f rest k x)

-- a number below their count is a hart's
pub member_at : (members : List Member) (k : ℕ) → k < length members → (m : Member) × (slice_get members k ≡ Some m)
member_at [] k inside = absurd (omega arith)
member_at (m ∷ rest) zero inside = (m, refl)
member_at (m ∷ rest) (suc k) inside = member_at rest k (omega arith)

-- Schedules.

-- one step is a schedule of one entry
pub Follows-one : {s : System} {k : ℕ} {m after : Member} {bytes : ByteMap} {seen : List Observation}
    → slice_get s.members k ≡ Some m → MemberStep s.bytes m seen bytes after
    → FollowsSchedule (k ∷ []) s (shown_by k seen) (record { members = with_member s.members k after; bytes = bytes })
Follows-one {k = k} {seen = seen} there step = steps_on there step done (sym (append-nil (shown_by k seen)))

-- a schedule, and then another
pub Follows-append : {a b : List ℕ} {s t u : System} {x y : List HartObservation} → FollowsSchedule a s x t
    → FollowsSchedule b t y u
    → FollowsSchedule (a ++ b) s (x ++ y) u
Follows-append done then = then
Follows-append {y = y} (steps_on {k = k} {seen = seen} {rest = rest} there step later is) then =
    steps_on there step (Follows-append later then) (rw (is, append_assoc (shown_by k seen) rest y))

-- harts neither come nor go
pub Follows-count : {schedule : List ℕ} {s t : System} {seen : List HartObservation} → FollowsSchedule schedule s seen t
    → length t.members ≡ length s.members
Follows-count done = refl
Follows-count {s = s} (steps_on {k = k} {after = after} there step later is) = Follows-count later
    ∙ length-with_member s.members k after

pub Follows-determined : {schedule : List ℕ} {s t u : System} {a b : List HartObservation}
    → FollowsSchedule schedule s a t
    → FollowsSchedule schedule s b u → (a ≡ b) × (t ≡ u)
Follows-determined done done = (refl, refl)
Follows-determined (steps_on {m = m} there step later is) (steps_on {m = m'} here other then js) =
    let same = same_Some m' m (sym here ∙ there) in
    let one = MemberStep-determined step (rw same at other) in
    let both = Follows-determined later (rw (sym one.1, sym one.2) at then) in
    (rw (is, js, one.0, both.0), both.1)

-- a schedule of numbers that harts have has an end
pub every_schedule_has_an_end : (schedule : List ℕ) (s : System) → All (λ number. number < length s.members) schedule
    → (seen : List HartObservation) × (end : System) × FollowsSchedule schedule s seen end
every_schedule_has_an_end [] s within = ([], s, done)
every_schedule_has_an_end (k ∷ schedule) s within =
    let inside : k < length s.members = All-head (λ number. number < length s.members) k schedule within in
    let found = member_at s.members k inside in
    let step = member_step_by s.bytes found.0 found.0.stop refl in
    let next : System = record { members = with_member s.members k step.2; bytes = step.1 } in
    let later = every_schedule_has_an_end schedule next (rw (length-with_member s.members k step.2)
    (All-tail (λ number. number < length s.members) k schedule within)) in
    (shown_by k step.0 ++ later.0, later.1, steps_on found.1 step.3 later.2 refl)

-- What a recorder takes.

pub on_err : {A E P : Type 0} → (r : Result A E) → P → OnErr r P
on_err (Ok x) p = tt
on_err (Err e) p = p

module _ (keeps : Bool) (schedule : List ℕ) (i : ℕ) (inside : i < length schedule) (s t u : System)
    (list between : List HartObservation) (shown : List HartObservation)
    (so_far : Followed keeps (take i schedule) s list t between)
    (step : FollowsSchedule (get_or schedule i 0 ∷ []) t shown u) where
  -- one entry more was followed
  pub Followed-more : (list' : List HartObservation) → list' ≡ kept_of keeps between shown
      → Followed keeps (take (i + 1) schedule) s list u list'
  Followed-more list' is = (
    so_far.0 ++ shown,
    rw (take_more schedule i 0 inside) (Follows-append so_far.1 step),
    rw (is, so_far.2) (kept-append keeps list so_far.0 shown),
  )

  -- what one entry more shows was refused
  pub Followed-short : (n : ℕ) → n ≡ length u.members → All (λ number. number < n) schedule
      → CutShort keeps schedule s list between
  Followed-short n count within =
      let rest = All-drop (λ number. number < n) (i + 1) schedule within in
      let later = every_schedule_has_an_end (drop (i + 1) schedule) u (rw count at rest) in
      let all = Follows-append so_far.1 (Follows-append step later.2) in (
        so_far.0,
        shown ++ later.0,
        later.1,
        rw (sym (drop_more schedule i 0 inside), take-append-drop i schedule) at all,
        so_far.2,
      )
