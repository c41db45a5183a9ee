-- What is said of a run, from what the calls of `run_places` say of it, and what is said of two.
use Rattle.std.proofs.Common.{◌≡◌, ◌≢◌, ℕ, ◌+◌, ◌-◌, ◌<◌, List, ◌++◌, codes, length, Some, None, Ok, refl, sym, ap}
use Rattle.std.proofs.Common.{◌∙◌, subst, arith}
use Rattle.image_reports.specs.Below.{Arg, MachineCode, code_at, code_base, compared, Differ, entries_of, Fields}
use Rattle.image_reports.specs.Below.{frame_base, IsLastBefore, IsLineAt, loaded_at, Observation, Paired, SaysRegisters}
use Rattle.image_reports.specs.Below.{Shown, ShowsAt, ShowsFewer, State, word_at}
use Rattle.run_reports.proofs.run_places_lemmas.Openings.{difference_reached, word_before}
use Rattle.run_reports.proofs.run_places_lemmas.Parting.{one_last_step}
use Rattle.run_reports.proofs.run_places_lemmas.Runs.{later_place}
use Rattle.image_reports.specs.pair_explanations.Explained.{shown_line, SaysRun, SaysOf, ExplainsDifference}

-- the code, the steps and the state that a run was loaded with
module _ (code code' : MachineCode) (budget budget' : ℕ) (s s' : State) (same_code : code ≡ code')
    (same_budget : budget ≡ budget') (same_state : s ≡ s') (place : ℕ) where
  pub fewer : ShowsFewer code budget s place → ShowsFewer code' budget' s' place
  fewer shows =
      subst (λ z. ShowsFewer z budget' s' place) same_code
      (subst (λ n. ShowsFewer code n s' place) same_budget
      (subst (λ t. ShowsFewer code budget t place) same_state shows))

  last_of : (seen : List Observation) (t : State) → IsLastBefore code budget s place seen t
      → IsLastBefore code' budget' s' place seen t
  last_of seen t last =
      subst (λ z. IsLastBefore z budget' s' place seen t) same_code
      (subst (λ n. IsLastBefore code n s' place seen t) same_budget
      (subst (λ u. IsLastBefore code budget u place seen t) same_state last))

  -- there is the state that the run is in once it has made its steps again, and what it shows from there is at a
  -- place
  pub said : (seen : List Observation) (t there : State) (steps entries left : ℕ) (registers text : List ℕ)
      (shown : Shown)
      → IsLastBefore code budget s place seen t → steps ≡ length seen → entries ≡ length (entries_of seen) → there ≡ t
      → left ≡ budget - steps
      → SaysRegisters code there registers → ShowsAt code left there (place - entries) shown
      → text ≡ registers ++ codes " " ++ shown_line shown
      → SaysRun code' budget' s' place seen there.pc text
  said seen t there steps entries left registers text shown last made counted here rest reads shows printed =
      let last' = last_of seen t last in
      let e : length (entries_of seen) + (place - entries) ≡ place = omega (arith, counted, last.before) in
      let budget_left : left ≡ budget' - length seen = omega (arith, rest, made, same_budget) in
      let shows' : ShowsAt code' (budget' - length seen) t (place - entries) shown =
      subst (λ z. ShowsAt z (budget' - length seen) t (place - entries) shown) same_code
      (subst (λ n. ShowsAt code n t (place - entries) shown) budget_left
      (subst (λ u. ShowsAt code left u (place - entries) shown) here shows)) in
      record {
        there = t;
        registers = registers;
        shown = shown;
        last = last';
        at = sym (ap (λ (u : State). u.pc) here);
        read = subst (λ z. SaysRegisters z t registers) same_code
            (subst (λ u. SaysRegisters code u registers) here reads);
        shows = subst (λ p. ShowsAt code' budget' s' p shown) e
            (later_place code' budget' s' t seen (place - entries) shown last'.leads
            (omega (arith, last'.within)) shows');
        printed = printed;
      }

-- a word stands where the last step before the place begins
pub word_said : (image : Fields) (args : List Arg) (place : ℕ) (seen : List Observation) (pc : ℕ) (text : List ℕ)
    → SaysOf image args place seen pc text → word_at (code_at code_base image) pc ≢ None
word_said image args place seen pc text says =
    let z = code_at code_base image in
    subst (λ p. word_at z p ≢ None) says.at
    (word_before z image.max_steps (loaded_at code_base frame_base image args) says.there place seen says.last)

-- two runs of an image that differ first at a place
module _ (image : Fields) (one other : List Arg) (place : ℕ)
    (differ : Paired image one other (Ok (Differ place))) where
  -- both reach it
  pub reached : (0 < place)
      × (ShowsFewer (code_at code_base image) image.max_steps (loaded_at code_base frame_base image one) place → ⊥)
      × (ShowsFewer (code_at code_base image) image.max_steps (loaded_at code_base frame_base image other) place → ⊥)
  reached = by differ
    where
      by : Paired image one other (Ok (Differ place)) → (0 < place)
          × (ShowsFewer (code_at code_base image) image.max_steps (loaded_at code_base frame_base image one) place
          → ⊥)
          × (ShowsFewer (code_at code_base image) image.max_steps (loaded_at code_base frame_base image other) place
          → ⊥)
      by (compared {seen = whole} {seen' = whole'} none ends ends' compares) =
          difference_reached (code_at code_base image) image.max_steps (loaded_at code_base frame_base image one)
          (loaded_at code_base frame_base image other)
          whole whole' ends.0 ends'.0 place (ends.1.0, ends.1.1.0, ends.1.1.1) (ends'.1.0, ends'.1.1.0, ends'.1.1.1)
          refl compares

  one_step : (seen seen' : List Observation) (t t' : State)
      → IsLastBefore (code_at code_base image) image.max_steps (loaded_at code_base frame_base image one) place seen t
      → IsLastBefore (code_at code_base image) image.max_steps (loaded_at code_base frame_base image other) place
      seen' t' → (seen ≡ seen') × (t.pc ≡ t'.pc)
  one_step seen seen' t t' last last' = by differ
    where
      by : Paired image one other (Ok (Differ place)) → (seen ≡ seen') × (t.pc ≡ t'.pc)
      by (compared {seen = whole} {seen' = whole'} none ends ends' compares) =
          one_last_step (code_at code_base image) image.max_steps (loaded_at code_base frame_base image one)
          (loaded_at code_base frame_base image other)
          t t' whole whole' seen seen' ends.0 ends'.0 place (ends.1.0, ends.1.1.0, ends.1.1.1)
          (ends'.1.0, ends'.1.1.0, ends'.1.1.1) compares last last'

  -- what is said of each of them is said of one step
  pub explained : (seen seen' : List Observation) (pc pc' : ℕ) (first second word text : List ℕ)
      → SaysOf image one place seen pc first → SaysOf image other place seen' pc' second
      → IsLineAt (code_at code_base image) pc (Some word)
      → text ≡ word ++ codes "first" ++ first ++ codes "second" ++ second
      → ExplainsDifference image one other place text
  explained seen seen' pc pc' first second word text of_first of_second line printed =
      let same = one_step seen seen' of_first.there of_second.there of_first.last of_second.last in
      let pcs : pc' ≡ pc = sym of_second.at ∙ (sym same.1 ∙ of_first.at) in
      record {
        seen = seen;
        pc = pc;
        word = word;
        first = first;
        second = second;
        of_word = line;
        of_first = of_first;
        of_second = subst (λ list. SaysOf image other place list pc second) (sym same.0)
            (subst (λ p. SaysOf image other place seen' p second) pcs of_second);
        printed = printed;
      }
