-- Harts whose data lie apart: each among others is what it is alone.
use Rattle.std.specs.Prelude.{nat_eq, is_some, slice_get}
use Rattle.std.proofs.Common.{◌≡◌, ◌≢◌, ℕ, zero, suc, cond, List, [], ◌∷◌, ◌++◌, Some, None, eq-eqb, ne_eqb, refl, sym}
use Rattle.std.proofs.Common.{ap, ◌∙◌, subst, inl, inr, append-nil}
use Rattle.std.proofs.lemmas.Bool.{cases_eq}
use Rattle.std.proofs.lemmas.List.{append_cancel_left}
use Rattle.std.proofs.lemmas.Option.{none-some, same_Some}
use Rattle.rv_machine.specs.declared.observation.Observation.{Observation}
use Rattle.rv_machine.specs.declared.hart_recording.HartObservation.{HartObservation}
use Rattle.rv_machine.specs.declared.stops.Stop.{Stop}
use Rattle.rv_machine.specs.declared.stops.Stop.TheVariants.{AccessFault}
use Rattle.rv_machine.specs.Apart.{Covers, Changes, KeepsInside, AreApart, IsAsAlone, ShowTheSame}
use Rattle.rv_machine.specs.Bytes.{ByteMap}
use Rattle.rv_machine.specs.Machine.{StepEnding, goes_on, stops, Step}
use Rattle.rv_machine.specs.System.{Member, System, state_in, gone_on, stopped, MemberStep, rests, moves, ends}
use Rattle.rv_machine.specs.System.{with_member, shown_by, FollowsSchedule, done, steps_on, none, one_more, of_hart}
use Rattle.rv_machine.specs.System.{steps_of}
use Rattle.rv_machine.proofs.Locality.{changes_nothing, IsSameStep, both_go, both_stop, reaches_out, step_same}
use Rattle.rv_machine.proofs.RunLaws.{Step-determined}
use Rattle.rv_machine.proofs.TotalLaws.{step_of_state}

-- One step of a member.

-- the step of a member alone, where that among others is this one
pub record StepAlone (own bytes : ByteMap) (m : Member) (seen : List Observation) (bytes' : ByteMap)
    (after : Member) : Type 0 where
  pub own' : ByteMap
  pub step : MemberStep own m seen own' after
  pub changes : Changes own bytes own' bytes'

module _ (own bytes : ByteMap) (covers : Covers own bytes) (m : Member) (inside : KeepsInside own m) where
  -- a step that stops alone does not stop by reaching for other bytes
  calm : {seen : List Observation} {stop : Stop} → m.stop ≡ None → Step m.code (state_in own m) (stops seen stop)
      → stop ≢ AccessFault
  calm {seen} {stop} going step e =
      inside 1 (seen ++ []) own (stopped m stop) (one_more (ends going step) none refl) (ap Some e)

  -- what a step that ends so is alone
  abbrev ends_alone : StepEnding → Type 0
  ends_alone (goes_on o t) = StepAlone own bytes m (o ∷ []) t.bytes (gone_on m t)
  ends_alone (stops seen stop) = StepAlone own bytes m seen bytes (stopped m stop)

  alone_by : {e f : StepEnding} → m.stop ≡ None → Step m.code (state_in own m) e
      → IsSameStep (state_in own m) bytes e f → ends_alone f
  alone_by going step (both_go {t = t} pcs registers changes) =
      rw (pcs, registers) (record { own' = t.bytes; step = moves going step; changes = changes })
  alone_by going step both_stop =
      record { own' = own; step = ends going step; changes = changes_nothing own bytes covers }
  alone_by going step reaches_out = absurd (calm going step refl)

  alone_of_step : {f : StepEnding} → m.stop ≡ None → Step m.code (state_in bytes m) f → ends_alone f
  alone_of_step going step =
      let alone = step_of_state m.code (state_in own m) in
      let same = step_same (state_in own m) bytes covers m.code alone.0 alone.1 in
      subst ends_alone (Step-determined same.1 step) (alone_by going alone.1 same.2)

  pub step_alone : {seen : List Observation} {bytes' : ByteMap} {after : Member}
      → MemberStep bytes m seen bytes' after → StepAlone own bytes m seen bytes' after
  step_alone (rests is) = record { own' = own; step = rests is; changes = changes_nothing own bytes covers }
  step_alone (moves going step) = alone_of_step going step
  step_alone (ends going step) = alone_of_step going step

-- Members by their numbers.

with_member_same : (ms : List Member) (k : ℕ) (m after : Member) → slice_get ms k ≡ Some m
    → slice_get (with_member ms k after) k ≡ Some after
with_member_same [] k m after at = absurd (none-some m at)
with_member_same (other ∷ rest) zero m after at = refl
with_member_same (other ∷ rest) (suc k) m after at = with_member_same rest k m after at

with_member_other : (ms : List Member) (j k : ℕ) (after : Member) → k ≢ j
    → slice_get (with_member ms j after) k ≡ slice_get ms k
with_member_other [] j k after apart = refl
with_member_other (other ∷ rest) zero zero after apart = absurd (apart refl)
with_member_other (other ∷ rest) zero (suc k) after apart = refl
with_member_other (other ∷ rest) (suc j) zero after apart = refl
with_member_other (other ∷ rest) (suc j) (suc k) after apart =
    with_member_other rest j k after (λ e. apart (ap suc e))

-- the harts' own bytes, with those of one made others
abbrev pub with_own : (ℕ → ByteMap) → ℕ → ByteMap → ℕ → ByteMap
with_own own j bytes k = cond (nat_eq k j) bytes (own k)

module _ (own : ℕ → ByteMap) (j : ℕ) (bytes : ByteMap) where
  with_own_same : (k : ℕ) → k ≡ j → with_own own j bytes k ≡ bytes
  with_own_same k e = rw (eq-eqb k j e)

  with_own_other : (k : ℕ) → k ≢ j → with_own own j bytes k ≡ own k
  with_own_other k apart = rw (ne_eqb k j apart)

  -- what holds of those that became others, and of the rest
  with_own_each : (P : ByteMap → Type 0) (k : ℕ) → (k ≡ j → P bytes) → (k ≢ j → P (own k)) → P (with_own own j bytes k)
  with_own_each P k changed kept = elim (cases_eq k j) [
    | inl e ↦ rw (with_own_same k e) (changed e)
    | inr e ↦ rw (with_own_other k e) (kept e)
  ]

-- One step of a system.

-- after one step of a member
abbrev pub after_step : System → ℕ → Member → ByteMap → System
after_step s j after bytes = record { members = with_member s.members j after; bytes = bytes }

module _ (own : ℕ → ByteMap) (s : System) (apart : AreApart own s) (j : ℕ) (m : Member)
    (at : slice_get s.members j ≡ Some m) {seen : List Observation} {bytes : ByteMap} {after : Member} where
  -- it is one that the member makes alone
  pub alone_of : MemberStep s.bytes m seen bytes after → StepAlone (own j) s.bytes m seen bytes after
  alone_of step = step_alone (own j) s.bytes (apart.there j) m (apart.inside j m at) step

  module _ (alone : StepAlone (own j) s.bytes m seen bytes after) where
    extent_kept : (k a : ℕ) → is_some (with_own own j alone.own' k a) ≡ is_some (own k a)
    extent_kept k a =
        with_own_each own j alone.own' (λ b. is_some (b a) ≡ is_some (own k a)) k
        (λ e. alone.changes.extent a ∙ ap (λ i. is_some (own i a)) (sym e)) (λ e. refl)

    there_kept : (k : ℕ) → Covers (with_own own j alone.own' k) bytes
    there_kept k =
        with_own_each own j alone.own' (λ b. Covers b bytes) k (λ e. alone.changes.covers)
        (λ e a there. alone.changes.elsewhere a (apart.apart k j a e there) ∙ apart.there k a there)

    inside_after : KeepsInside alone.own' after
    inside_after n more end last makes =
        apart.inside j m at (suc n) (seen ++ more) end last (one_more alone.step makes refl)

    inside_kept : (k : ℕ) (it : Member) → slice_get (with_member s.members j after) k ≡ Some it
        → KeepsInside (with_own own j alone.own' k) it
    inside_kept k it at' =
        with_own_each own j alone.own' (λ b. KeepsInside b it) k
        (λ e.
        let is = sym (with_member_same s.members j m after at)
        ∙ ap (slice_get (with_member s.members j after)) (sym e) ∙ at' in
        subst (KeepsInside alone.own') (same_Some after it is) inside_after)
        (λ e. apart.inside k it (sym (with_member_other s.members j k after e) ∙ at'))

    -- and the members' own bytes are apart as before
    pub still_apart : AreApart (with_own own j alone.own') (after_step s j after bytes)
    still_apart = record {
      apart = λ i k a other there. extent_kept k a ∙ apart.apart i k a other (sym (extent_kept i a) ∙ there);
      there = there_kept;
      inside = inside_kept;
    }

-- What one of them showed.

of_hart_own : (j k : ℕ) → j ≡ k → (seen : List Observation) (rest : List HartObservation)
    → of_hart k (shown_by j seen ++ rest) ≡ seen ++ of_hart k rest
of_hart_own j k same [] rest = refl
of_hart_own j k same (o ∷ seen) rest = rw (eq-eqb j k same, of_hart_own j k same seen rest)

of_hart_other : (j k : ℕ) → j ≢ k → (seen : List Observation) (rest : List HartObservation)
    → of_hart k (shown_by j seen ++ rest) ≡ of_hart k rest
of_hart_other j k other [] rest = refl
of_hart_other j k other (o ∷ seen) rest = rw (ne_eqb j k other) (of_hart_other j k other seen rest)

-- Every schedule.

-- each is what it is alone
pub alone : (own : ℕ → ByteMap) (schedule : List ℕ) (s end : System) (list : List HartObservation) (k : ℕ)
    (m : Member) → AreApart own s → FollowsSchedule schedule s list end → slice_get s.members k ≡ Some m
    → IsAsAlone k (steps_of k schedule) (own k) m list end
alone own [] s end list k m apart done at =
    record {
      seen = [];
      bytes = own k;
      member = m;
      makes = none;
      there = at;
      bytes_there = apart.there k;
      extent = λ a. refl;
      shown = refl;
    }
alone own (j ∷ schedule) s end list k m apart
    (steps_on {m = mover} {after = after} {bytes = bytes} {seen = seen} {rest = rest} at_j step follows is) at =
    let one = alone_of own s apart j mover at_j step in
    let own' = with_own own j one.own' in
    let then = λ (it : Member) (there : slice_get (with_member s.members j after) k ≡ Some it).
    alone own' schedule (after_step s j after bytes) end rest k it (still_apart own s apart j mover at_j one) follows
    there in
    elim (cases_eq j k) [
      | inl e ↦
          let same : mover ≡ m = same_Some mover m (sym at_j ∙ ap (slice_get s.members) e ∙ at) in
          let later = rw (with_own_same own j one.own' k (sym e)) at then after
          (ap (slice_get (with_member s.members j after)) (sym e) ∙ with_member_same s.members j mover after at_j) in
          let step' = subst (λ i. MemberStep (own i) m seen one.own' after) e
          (subst (λ (it : Member). MemberStep (own j) it seen one.own' after) same one.step) in
          rw (eq-eqb j k e) (record {
            seen = seen ++ later.seen;
            bytes = later.bytes;
            member = later.member;
            makes = one_more {m' = later.member} step' later.makes refl;
            there = later.there;
            bytes_there = later.bytes_there;
            extent = λ a. later.extent a ∙ one.changes.extent a ∙ ap (λ i. is_some (own i a)) e;
            shown = rw is (of_hart_own j k e seen rest ∙ ap (λ xs. seen ++ xs) later.shown);
          })
      | inr other ↦
          let far : k ≢ j = λ h. other (sym h) in
          let later = rw (with_own_other own j one.own' k far) at then m
          (with_member_other s.members j k after far ∙ at) in
          rw (ne_eqb j k other) (record {
            seen = later.seen;
            bytes = later.bytes;
            member = later.member;
            makes = later.makes;
            there = later.there;
            bytes_there = later.bytes_there;
            extent = later.extent;
            shown = rw is (of_hart_other j k other seen rest ∙ later.shown);
          })
    ]

-- Two systems.

-- what shows the same from here on does so after a step
same_after : {own own' bytes bytes' : ByteMap} {m m' after after' : Member} {seen seen' : List Observation}
    → ShowTheSame own m own' m' → MemberStep own m seen bytes after → MemberStep own' m' seen' bytes' after'
    → (seen ≡ seen') × ShowTheSame bytes after bytes' after'
same_after {bytes = bytes} {bytes' = bytes'} {after = after} {after' = after'} {seen = seen} {seen' =
    seen'} same step step' =
    let both : seen ++ [] ≡ seen' ++ [] =
    same 1 (seen ++ []) (seen' ++ []) bytes bytes' after after' (one_more step none refl)
    (one_more step' none refl) in
    let first : seen ≡ seen' = sym (append-nil seen) ∙ both ∙ append-nil seen' in (
      first,
      λ n more more' b b' last last' makes makes'.
          append_cancel_left seen more more'
          (same (suc n) (seen ++ more) (seen' ++ more') b b' last last' (one_more step makes refl)
          (one_more step' makes' refl) ∙ ap (λ xs. xs ++ more') (sym first)),
    )

abbrev pub AreAlike : (ℕ → ByteMap) → System → (ℕ → ByteMap) → System → Type 0
AreAlike own s own' s' = (k : ℕ) (m m' : Member) → slice_get s.members k ≡ Some m → slice_get s'.members k ≡ Some m'
    → ShowTheSame (own k) m (own' k) m'

module _ (own own' : ℕ → ByteMap) (s s' : System) (alike : AreAlike own s own' s') (j : ℕ) (m m' : Member)
    (at : slice_get s.members j ≡ Some m) (at' : slice_get s'.members j ≡ Some m') where
  still_alike : (bytes bytes' : ByteMap) {b b' : ByteMap} {after after' : Member} → ShowTheSame b after b' after'
      → AreAlike (with_own own j b) (after_step s j after bytes) (with_own own' j b') (after_step s' j after' bytes')
  still_alike bytes bytes' {b = b} {b' = b'} {after = after} {after' = after'} same k it it' is is' =
      elim (cases_eq k j) [
        | inl e ↦
            let one = same_Some after it (sym (with_member_same s.members j m after at)
            ∙ ap (slice_get (with_member s.members j after)) (sym e) ∙ is) in
            let other = same_Some after' it' (sym (with_member_same s'.members j m' after' at')
            ∙ ap (slice_get (with_member s'.members j after')) (sym e) ∙ is') in
            rw (with_own_same own j b k e, with_own_same own' j b' k e, ← one, ← other) same
        | inr e ↦
            rw (with_own_other own j b k e, with_own_other own' j b' k e)
            (alike k it it' (sym (with_member_other s.members j k after e) ∙ is)
            (sym (with_member_other s'.members j k after' e) ∙ is'))
      ]

-- of two systems whose harts alone show the same
pub shown_the_same : (own own' : ℕ → ByteMap) (schedule : List ℕ) (s s' end end' : System)
    (list list' : List HartObservation) → AreApart own s → AreApart own' s' → AreAlike own s own' s'
    → FollowsSchedule schedule s list end → FollowsSchedule schedule s' list' end' → list ≡ list'
shown_the_same own own' [] s s' end end' list list' apart apart' alike done done = refl
shown_the_same own own' (j ∷ schedule) s s' end end' list list' apart apart' alike
    (steps_on {m = m} {after = after} {bytes = bytes} {seen = seen} {rest = rest} at step follows is)
    (steps_on {m = m'} {after = after'} {bytes = bytes'} {seen = seen'} {rest = rest'} at' step' follows' is') =
    let one = alone_of own s apart j m at step in
    let other = alone_of own' s' apart' j m' at' step' in
    let both = same_after (alike j m m' at at') one.step other.step in
    let next = still_apart own s apart j m at one in
    let next' = still_apart own' s' apart' j m' at' other in
    let alike' = still_alike own own' s s' alike j m m' at at' bytes bytes' both.1 in
    let rests = shown_the_same (with_own own j one.own') (with_own own' j other.own') schedule
    (after_step s j after bytes) (after_step s' j after' bytes') end end' rest rest' next next' alike' follows
    follows' in
    is ∙ ap (λ xs. shown_by j xs ++ rest) both.0 ∙ ap (λ xs. shown_by j seen' ++ xs) rests ∙ sym is'
