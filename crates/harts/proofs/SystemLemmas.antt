-- Where jobs side by side begin: each hart with a frame of its own, alone in which it stays.
use Rattle.std.specs.Prelude.{slice_get}
use Rattle.std.proofs.Common.{◌≡◌, ◌≢◌, ℕ, zero, suc, ◌+◌, ◌<◌, ◌≤◌, true, false, List, [], ◌∷◌, length, Option, Some}
use Rattle.std.proofs.Common.{None, is_some, refl, sym, ap, subst, ◌∙◌, ⊎_elim, arith}
use Rattle.std.proofs.lemmas.Bool.{cases_lt, false≢true, false_from_ne_true}
use Rattle.std.proofs.lemmas.Option.{none-some, same_Some, slice_get_within}
use Rattle.std.specs.List.{AllByRecursion}
use Rattle.harts.specs.Below.{AreApart, AreBases, AreWithin, ByteMap, Covers, Ecall, first_of, frame_distance}
use Rattle.harts.specs.Below.{IsCompiled, IsImage, KeepsInside, Member, most_images, params_of, ProcedureTree}
use Rattle.harts.specs.Below.{ProgramTree, RunsTo}
use Rattle.harts.proofs.FrameLemmas.{frame_only}
use Rattle.harts.specs.EverySchedule.{IsFromSource}
use Rattle.harts.specs.SideBySide.{code_base_of, frame_base_of, Job, loaded_alone, member_of, bytes_from, members_from}
use Rattle.harts.specs.SideBySide.{system_of}
use Rattle.harts.proofs.Below.{keeps_inside, same_fields}

-- One job.

-- a compiled image that may lie at the bases of each hart, with arguments within its parameter types
pub record IsFitJob (job : Job) : Type 0 where
  pub program : ProgramTree
  pub before : List ProcedureTree
  pub export : ProcedureTree
  pub compiled : IsCompiled program before export job.image
  pub allowed : IsImage job.image
  pub bases : (k : ℕ) → k < most_images → AreBases job.image (code_base_of k) (frame_base_of k)
  pub within : AreWithin (params_of job.image) job.args

abbrev pub fit_of : (job : Job) → IsFromSource job → IsFitJob job
fit_of job from =
    let built = from.built in
    let images : built.image ≡ job.image = same_fields from.bytes built.image job.image built.spelled from.spelled in
    record {
      program = built.program;
      before = built.before;
      export = built.export;
      compiled = rw images at built.compilation.compiled;
      allowed = rw images at built.compilation.allowed;
      bases = rw images at built.compilation.bases;
      within = from.within;
    }

pub all_fit : (jobs : List Job) → AllByRecursion IsFromSource jobs → AllByRecursion IsFitJob jobs
all_fit [] from = tt
all_fit (job ∷ jobs) from = (fit_of job from.0, all_fit jobs from.1)

pub fit_at : (jobs : List Job) (k : ℕ) (job : Job) → AllByRecursion IsFitJob jobs → slice_get jobs k ≡ Some job
    → IsFitJob job
fit_at [] k job fits at = absurd (none-some job at)
fit_at (first ∷ rest) zero job fits at = subst IsFitJob (same_Some first job at) fits.0
fit_at (first ∷ rest) (suc k) job fits at = fit_at rest k job fits.1 at

module _ (k : ℕ) (job : Job) (fit : IsFitJob job) where
  -- its run alone
  pub run_of : k < most_images → RunsTo fit.program job.image (code_base_of k) (frame_base_of k) job.args
  run_of below = fit.compiled.results (code_base_of k) (frame_base_of k) job.args (fit.bases k below) fit.within

  pub inside_alone : k < most_images → KeepsInside (loaded_alone k job).bytes (member_of k job)
  inside_alone below =
      let run = (run_of below).run in
      keeps_inside (member_of k job) (loaded_alone k job).bytes run.step_count run.seen Ecall run.end refl
      run.halts (λ e. cc)

  -- its data is in its frame
  window : (a : ℕ) → is_some ((loaded_alone k job).bytes a) ≡ true
      → (frame_base_of k ≤ a) × (a < frame_base_of k + frame_distance)
  window a there =
      let inside = frame_only (code_base_of k) (frame_base_of k) job.image fit.allowed job.args fit.within a there in
      (inside.0, omega (arith, inside.1, fit.allowed.frame_size))

-- two frames have no byte in common
apart_frames : (j k a : ℕ) → j ≢ k → (frame_base_of j ≤ a) × (a < frame_base_of j + frame_distance)
    → (frame_base_of k ≤ a) × (a < frame_base_of k + frame_distance) → ⊥
apart_frames j k a other one two =
    ⊎_elim
    (λ (h : j < k). omega (arith, one.1, two.0))
    (λ (h : k ≤ j). ⊎_elim (λ (g : k < j). omega (arith, one.0, two.1)) (λ (g : j ≤ k). other (omega arith))
    (cases_lt k j))
    (cases_lt j k)

-- Jobs side by side.

pub member_at : (base : ℕ) (jobs : List Job) (k : ℕ) (job : Job) → slice_get jobs k ≡ Some job
    → slice_get (members_from base jobs) k ≡ Some (member_of (base + k) job)
member_at base [] k job at = absurd (none-some job at)
member_at base (first ∷ rest) zero job at =
    let place : base + 0 ≡ base = omega arith in
    rw (place, same_Some first job at)
member_at base (first ∷ rest) (suc k) job at =
    let place : suc base + k ≡ base + suc k = omega arith in
    member_at (suc base) rest k job at ∙ ap (λ i. Some (member_of i job)) place

pub job_at : (base : ℕ) (jobs : List Job) (k : ℕ) (m : Member) → slice_get (members_from base jobs) k ≡ Some m
    → (job : Job) × (slice_get jobs k ≡ Some job) × (m ≡ member_of (base + k) job)
job_at base [] k m at = absurd (none-some m at)
job_at base (first ∷ rest) zero m at =
    let place : base ≡ base + 0 = omega arith in
    (first, refl, sym (same_Some (member_of base first) m at) ∙ ap (λ i. member_of i first) place)
job_at base (first ∷ rest) (suc k) m at =
    let found = job_at (suc base) rest k m at in
    let place : suc base + k ≡ base + suc k = omega arith in
    (found.0, found.1, found.2 ∙ ap (λ i. member_of i found.0) place)

first_there : (o other : Option ℕ) → is_some o ≡ true → first_of o other ≡ o
first_there (Some byte) other there = refl
first_there None other there = absurd (false≢true there)

second_there : (o other : Option ℕ) → is_some o ≡ false → first_of o other ≡ other
second_there (Some byte) other none = absurd (false≢true (sym none))
second_there None other none = refl

-- each frame's bytes are there
bytes_at : (base : ℕ) (jobs : List Job) → AllByRecursion IsFitJob jobs → (k : ℕ) (job : Job)
    → slice_get jobs k ≡ Some job → (a : ℕ) → is_some ((loaded_alone (base + k) job).bytes a) ≡ true
    → bytes_from base jobs a ≡ (loaded_alone (base + k) job).bytes a
bytes_at base [] fits k job at a there = absurd (none-some job at)
bytes_at base (first ∷ rest) fits zero job at a there =
    let place : base + 0 ≡ base = omega arith in
    let same = sym (same_Some first job at) in
    rw (place, same)
    (first_there ((loaded_alone base first).bytes a) (bytes_from (suc base) rest a) (rw (place, same) at there))
bytes_at base (first ∷ rest) fits (suc k) job at a there =
    let place : base + suc k ≡ suc base + k = omega arith in
    let mine = window (base + suc k) job (fit_at rest k job fits.1 at) a there in
    let none = false_from_ne_true (is_some ((loaded_alone base first).bytes a))
    (λ also. apart_frames base (base + suc k) a (λ e. omega (arith, e))
    (window base first fits.0 a also) mine) in
    rw place (second_there ((loaded_alone base first).bytes a) (bytes_from (suc base) rest a) none
    ∙ bytes_at (suc base) rest fits.1 k job at a (rw place at there))

-- Each hart's own bytes.

abbrev own_at : Option Job → ℕ → ByteMap
own_at (Some job) k = (loaded_alone k job).bytes
own_at None k = λ a. None

abbrev pub own_of : List Job → ℕ → ByteMap
own_of jobs k = own_at (slice_get jobs k) k

pub own_is : (jobs : List Job) (k : ℕ) (job : Job) → slice_get jobs k ≡ Some job
    → own_of jobs k ≡ (loaded_alone k job).bytes
own_is jobs k job at = ap (λ o. own_at o k) at

module _ (jobs : List Job) (few : length jobs ≤ most_images) (fits : AllByRecursion IsFitJob jobs) where
  owned : (k a : ℕ) (o : Option Job) → slice_get jobs k ≡ o → is_some (own_at o k a) ≡ true
      → (job : Job) × (slice_get jobs k ≡ Some job) × (is_some ((loaded_alone k job).bytes a) ≡ true)
  owned k a (Some job) at there = (job, at, there)
  owned k a None at there = absurd (false≢true there)

  own_window : (k a : ℕ) → is_some (own_of jobs k a) ≡ true
      → (frame_base_of k ≤ a) × (a < frame_base_of k + frame_distance)
  own_window k a there =
      let found = owned k a (slice_get jobs k) refl there in
      window k found.0 (fit_at jobs k found.0 fits found.1) a found.2

  own_there : (k : ℕ) → Covers (own_of jobs k) (bytes_from zero jobs)
  own_there k a there =
      let found = owned k a (slice_get jobs k) refl there in
      let place : zero + k ≡ k = omega arith in
      (rw place at (bytes_at zero jobs fits k found.0 found.1 a (rw place found.2)))
      ∙ ap (λ (b : ByteMap). b a) (sym (own_is jobs k found.0 found.1))

  own_inside : (k : ℕ) (m : Member) → slice_get (members_from zero jobs) k ≡ Some m → KeepsInside (own_of jobs k) m
  own_inside k m at =
      let found = job_at zero jobs k m at in
      let job = found.0 in
      let place : zero + k ≡ k = omega arith in
      let is : m ≡ member_of k job = found.2 ∙ ap (λ i. member_of i job) place in
      let short = slice_get_within jobs k job found.1 in
      rw (own_is jobs k job found.1) (subst (KeepsInside (loaded_alone k job).bytes) (sym is)
      (inside_alone k job (fit_at jobs k job fits found.1) (omega arith)))

  -- the harts have bytes of their own, and reach for no others
  pub jobs_apart : AreApart (own_of jobs) (system_of jobs)
  jobs_apart = record {
    apart = λ j k a other there. false_from_ne_true (is_some (own_of jobs k a))
        (λ also. apart_frames j k a other (own_window j a there) (own_window k a also));
    there = own_there;
    inside = own_inside;
  }
