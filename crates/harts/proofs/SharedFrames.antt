-- Frames side by side in one memory: arguments that are put into one of them change no other.
use Rattle.std.specs.Prelude.{slice_get, is_some, ◌||◌}
use Rattle.std.specs.List.{AllByRecursion, list_any}
use Rattle.std.proofs.Math.Path.{fun_ext}
use Rattle.std.proofs.Common.{◌≡◌, ℕ, zero, suc, ◌+◌, ◌/◌, ◌%◌, ◌^◌, ◌<◌, ◌≤◌, List, [], ◌∷◌, length, map, drop, get_or}
use Rattle.std.proofs.Common.{All, Option, Some, None, true, false, cond, refl, sym, ap, ◌∙◌, subst, ⊎_elim, arith}
use Rattle.std.proofs.Common.{add-one}
use Rattle.std.proofs.ByRecursion.{All-weaker as All-weaker-by_recursion}
use Rattle.std.proofs.lemmas.Bool.{cases_eq, false≢true}
use Rattle.std.proofs.lemmas.List.{drop_more}
use Rattle.std.proofs.lemmas.List.Elements.{All-head, All-tail, All-cons, All-get_or, All-from_recursion}
use Rattle.std.proofs.lemmas.List.Elements.{All-weaker, recursion_from_All}
use Rattle.std.proofs.lemmas.Option.{none-some, same_Some, slice_get_within, get_or_from_slice_get}
use Rattle.harts.specs.Below.{AddressRange, AreWithin, Arg, ByteMap, element_bytes, first_of, HoldsSlot, IsImage}
use Rattle.harts.specs.Below.{lies_in, Slot, with_argument, with_arguments, with_byte, with_number, with_numbers, zeros}
use Rattle.harts.specs.Below.{zeros_in}
use Rattle.harts.proofs.FrameLemmas.{frame_only}
use Rattle.harts.proofs.Below.{zeros_there, HoldsSlot-same, is_some-with_argument, slots_held, with_byte_same}
use Rattle.harts.proofs.Below.{with_byte_other, with_number-zero, with_number-suc}
use Rattle.language.specs.declared.values.Arg.TheVariants.{Word, Array}
use Rattle.harts.specs.Frames.{each_from, IsRunnable, HasImage, frame_of, with_all_arguments, HoldFrames}
use Rattle.harts.specs.SideBySide.{Job, code_base_of, frame_base_of, loaded_alone, bytes_from}

-- One frame among others.

module _ (p r : ByteMap) where
  -- the bytes of a frame, between what lies before it and what lies behind it
  abbrev pub among : ByteMap → ByteMap
  among b a = first_of (p a) (first_of (b a) (r a))

  among-byte : (b : ByteMap) (x v : ℕ) → p x ≡ None → with_byte (among b) x v ≡ among (with_byte b x v)
  among-byte b x v none =
      fun_ext (λ y. ⊎_elim
      (λ (e : y ≡ x). with_byte_same (among b) x v y e
      ∙ sym (ap (λ o. first_of o (first_of (with_byte b x v y) (r y))) (ap p e ∙ none)
      ∙ ap (λ o. first_of o (r y)) (with_byte_same b x v y e)))
      (λ (n : y ≡ x → ⊥). with_byte_other (among b) x v y n
      ∙ ap (λ o. first_of (p y) (first_of o (r y))) (sym (with_byte_other b x v y n)))
      (cases_eq y x))

  module _ (low : ℕ) (empty : (x : ℕ) → low ≤ x → p x ≡ None) where
    among-number : (b : ByteMap) (n a v : ℕ) → low ≤ a → with_number (among b) n a v ≡ among (with_number b n a v)
    among-number b zero a v le = with_number-zero (among b) a v ∙ ap among (sym (with_number-zero b a v))
    among-number b (suc n) a v le =
        with_number-suc (among b) n a v
        ∙ ap (λ m. with_byte m a (v % 256)) (among-number b n (a + 1) (v / 256) (omega arith))
        ∙ among-byte (with_number b n (a + 1) (v / 256)) a (v % 256) (empty a le)
        ∙ ap among (sym (with_number-suc b n a v))

    among-numbers : (b : ByteMap) (size from : ℕ) (vs : List ℕ) → low ≤ from
        → with_numbers (among b) size from vs ≡ among (with_numbers b size from vs)
    among-numbers b size from [] le = refl
    among-numbers b size from (v ∷ vs) le =
        ap (λ m. with_numbers m size (from + size) vs) (among-number b size from v le)
        ∙ among-numbers (with_number b size from v) size (from + size) vs (omega arith)

    among-argument : (b : ByteMap) (slot : Slot) (arg : Arg)
        → with_argument low (among b) slot arg ≡ among (with_argument low b slot arg)
    among-argument b slot (Word word) = among-number b 4 (low + slot.offset) word (omega arith)
    among-argument b slot (Array words) =
        among-numbers b (element_bytes slot.param.kind) (low + slot.offset) words (omega arith)

    pub among-arguments : (b : ByteMap) (slots : List Slot) (args : List Arg)
        → with_arguments low (among b) slots args ≡ among (with_arguments low b slots args)
    among-arguments b (slot ∷ slots) (arg ∷ args) =
        ap (λ m. with_arguments low m slots args) (among-argument b slot arg)
        ∙ among-arguments (with_argument low b slot arg) slots args
    among-arguments b slots args = refl

-- Where the data is.

pub is_some-with_arguments : (frame : ℕ) (bytes : ByteMap) (slots : List Slot) (args : List Arg)
    → AllByRecursion (HoldsSlot frame bytes) slots → AreWithin (map (λ (slot : Slot). slot.param) slots) args
    → (x : ℕ) → is_some (with_arguments frame bytes slots args x) ≡ is_some (bytes x)
is_some-with_arguments frame bytes (slot ∷ slots) (arg ∷ args) held within x =
    let same = is_some-with_argument frame bytes slot held.0 arg within.0.shape in
    is_some-with_arguments frame (with_argument frame bytes slot arg) slots args
    (All-weaker-by_recursion (HoldsSlot frame bytes) (HoldsSlot frame (with_argument frame bytes slot arg))
    (λ other. HoldsSlot-same frame bytes (with_argument frame bytes slot arg) other same) slots held.1) within.1 x
    ∙ same x
is_some-with_arguments frame bytes slots args held within x = refl

-- no data of a frame lies in the next one
frame_ends : (k : ℕ) (job : Job) → HasImage job → IsRunnable job → (x : ℕ) → frame_base_of (suc k) ≤ x
    → (loaded_alone k job).bytes x ≡ None
frame_ends k job allowed within x past = by ((loaded_alone k job).bytes x) refl
  where
    by : (o : Option ℕ) → (loaded_alone k job).bytes x ≡ o → o ≡ None
    by None is = refl
    by (Some byte) is =
        let inside =
        frame_only (code_base_of k) (frame_base_of k) job.image allowed job.args within x (ap is_some is) in
        absurd (omega (arith, inside.1, allowed.frame_size))

-- All frames.

-- zeros in the frames that are numbered from k on
abbrev pub zeros_from : ℕ → List Job → ByteMap
zeros_from k [] a = None
zeros_from k (job ∷ jobs) a = first_of (zeros (frame_base_of k) job.image.frame_bytes a) (zeros_from (suc k) jobs a)

first_of-assoc : (x y z : Option ℕ) → first_of x (first_of y z) ≡ first_of (first_of x y) z
first_of-assoc (Some b) y z = refl
first_of-assoc None y z = refl

-- behind what lies before them, arguments that are put into zeros are the loaded frames
arguments_put : (k : ℕ) (jobs : List Job) (p : ByteMap) → ((x : ℕ) → frame_base_of k ≤ x → p x ≡ None)
    → k + length jobs ≤ 8 → All HasImage jobs → All IsRunnable jobs
    → with_all_arguments k jobs (λ a. first_of (p a) (zeros_from k jobs a))
    ≡ (λ a. first_of (p a) (bytes_from k jobs a))
arguments_put k [] p empty few allowed within = refl
arguments_put k (job ∷ jobs) p empty few allowed within =
    let low = frame_base_of k in
    let begun = zeros low job.image.frame_bytes in
    let alone = (loaded_alone k job).bytes in
    let rest = zeros_from (suc k) jobs in
    let q : ByteMap = λ a. first_of (p a) (alone a) in
    let put = among-arguments p rest low empty begun job.image.slots job.args in
    let regrouped : among p rest alone ≡ (λ a. first_of (q a) (rest a)) =
    fun_ext (λ a. first_of-assoc (p a) (alone a) (rest a)) in
    let ended = frame_ends k job (All-head HasImage job jobs allowed) (All-head IsRunnable job jobs within) in
    let above : (x : ℕ) → frame_base_of (suc k) ≤ x
    → q x ≡ None = λ x past. ap (λ o. first_of o (alone x)) (empty x (omega arith)) ∙ ended x past in
    ap (with_all_arguments (suc k) jobs) (put ∙ regrouped)
    ∙ arguments_put (suc k) jobs q above (omega arith) (All-tail HasImage job jobs allowed)
    (All-tail IsRunnable job jobs within)
    ∙ fun_ext (λ a. sym (first_of-assoc (p a) (alone a) (bytes_from (suc k) jobs a)))

abbrev zero_byte : ℕ
zero_byte = 0

zeros_in-cons : (range : AddressRange) (ranges : List AddressRange) (a : ℕ)
    → zeros_in (range ∷ ranges) a ≡ first_of (cond (lies_in a range) (Some zero_byte) None) (zeros_in ranges a)
zeros_in-cons range ranges a =
    elim (lies_in a range) as (λ t. cond (t || list_any (lies_in a) ranges) (Some zero_byte) None
    ≡ first_of (cond t (Some zero_byte) None) (zeros_in ranges a)) [ true ↦ refl | false ↦ refl ]

-- the zeros of their ranges
pub zeros_in-frames : (k : ℕ) (jobs : List Job) (a : ℕ) → zeros_in (each_from frame_of k jobs) a ≡ zeros_from k jobs a
zeros_in-frames k [] a = refl
zeros_in-frames k (job ∷ jobs) a =
    zeros_in-cons (frame_of k job) (each_from frame_of (suc k) jobs) a
    ∙ ap (first_of (zeros (frame_base_of k) job.image.frame_bytes a)) (zeros_in-frames (suc k) jobs a)

-- a slot that was held is held still
pub all_held : (frame : ℕ) (old new : ByteMap) (slots : List Slot) → ((x : ℕ) → is_some (new x) ≡ is_some (old x))
    → All (HoldsSlot frame old) slots → All (HoldsSlot frame new) slots
all_held frame old new slots same held =
    All-weaker (HoldsSlot frame old) (HoldsSlot frame new) (λ slot. HoldsSlot-same frame old new slot same) slots held

-- arguments that are put leave the data where it was
pub still_there : (frame : ℕ) (bytes : ByteMap) (slots : List Slot) (args : List Arg)
    → All (HoldsSlot frame bytes) slots → AreWithin (map (λ (slot : Slot). slot.param) slots) args → (x : ℕ)
    → is_some (with_arguments frame bytes slots args x) ≡ is_some (bytes x)
still_there frame bytes slots args held within =
    is_some-with_arguments frame bytes slots args (recursion_from_All (HoldsSlot frame bytes) slots held) within

-- which end where addresses do
pub frames_below : (k : ℕ) (jobs : List Job) → k + length jobs ≤ 8 → All HasImage jobs
    → All (λ (range : AddressRange). range.end ≤ 2 ^ 32) (each_from frame_of k jobs)
frames_below k [] few allowed = All-from_recursion (λ (range : AddressRange). range.end ≤ 2 ^ 32) [] tt
frames_below k (job ∷ jobs) few allowed =
    let image : IsImage job.image = All-head HasImage job jobs allowed in
    let first : (frame_of k job).end ≤ 2 ^ 32 = omega (arith, image.frame_size, few) in
    All-cons (λ (range : AddressRange). range.end ≤ 2 ^ 32) (frame_of k job) (each_from frame_of (suc k) jobs) first
    (frames_below (suc k) jobs (omega arith) (All-tail HasImage job jobs allowed))

-- so the memory of these ranges holds the loaded frames, once the arguments are put
pub frames_loaded : (jobs : List Job) (begun : ByteMap) → begun ≡ zeros_in (each_from frame_of 0 jobs)
    → length jobs ≤ 8 → All HasImage jobs → All IsRunnable jobs → with_all_arguments 0 jobs begun ≡ bytes_from 0 jobs
frames_loaded jobs begun is few allowed within =
    let zeroed : begun ≡ zeros_from 0 jobs = is ∙ fun_ext (zeros_in-frames 0 jobs) in
    ap (with_all_arguments 0 jobs) zeroed
    ∙ arguments_put 0 jobs (λ _. None) (λ x past. refl) (omega (arith, few)) allowed within

first_there : (o r : Option ℕ) → is_some o ≡ true → is_some (first_of o r) ≡ true
first_there (Some b) r is = refl
first_there None r is = absurd (false≢true is)

second_there : (o r : Option ℕ) → is_some r ≡ true → is_some (first_of o r) ≡ true
second_there (Some b) r is = refl
second_there None r is = is

zeros_from_there : (k : ℕ) (jobs : List Job) (i : ℕ) (job : Job) → slice_get jobs i ≡ Some job → (x : ℕ)
    → frame_base_of (k + i) ≤ x → x < frame_base_of (k + i) + job.image.frame_bytes
    → is_some (zeros_from k jobs x) ≡ true
zeros_from_there k [] i job is x low high = absurd (none-some _ is)
zeros_from_there k (first ∷ jobs) zero job is x low high =
    let same : job.image.frame_bytes ≡ first.image.frame_bytes =
    ap (λ (j : Job). j.image.frame_bytes) (sym (same_Some first job is)) in
    first_there (zeros (frame_base_of k) first.image.frame_bytes x) (zeros_from (suc k) jobs x)
    (zeros_there (frame_base_of k) first.image.frame_bytes x (omega arith) (omega (arith, same)))
zeros_from_there k (first ∷ jobs) (suc i) job is x low high =
    second_there (zeros (frame_base_of k) first.image.frame_bytes x) (zeros_from (suc k) jobs x)
    (zeros_from_there (suc k) jobs i job is x (omega arith) (omega arith))

-- each slot lies in the memory of these ranges
pub frames_held : (jobs : List Job) (begun : ByteMap) → begun ≡ zeros_in (each_from frame_of 0 jobs) → length jobs ≤ 8
    → All HasImage jobs → HoldFrames jobs begun
frames_held jobs begun is few allowed = λ k job there.
    let inside : k < length jobs = slice_get_within jobs k job there in
    let image : IsImage job.image =
    subst HasImage (get_or_from_slice_get jobs k job job there) (All-get_or HasImage jobs k job inside allowed) in
    let base = frame_base_of k in
    let n = job.image.frame_bytes in
    let zeroed : begun ≡ zeros_from 0 jobs = is ∙ fun_ext (zeros_in-frames 0 jobs) in
    let found : (x : ℕ) → base ≤ x → x < base + n → is_some (begun x) ≡ true =
    λ x low high. ap (λ (b : ByteMap). is_some (b x)) zeroed
    ∙ zeros_from_there 0 jobs k job there x (omega (arith, low)) (omega (arith, high)) in
    All-from_recursion (HoldsSlot base begun) job.image.slots
    (slots_held base n begun job.image.slots image.slots_inside
    (omega (arith, image.frame_size, inside, few)) found)

-- putting what is left begins with the next one's arguments
pub with_all-next : (jobs : List Job) (i : ℕ) (job : Job) (b : ByteMap) → i < length jobs → get_or jobs i job ≡ job
    → with_all_arguments i (drop i jobs) b
    ≡ with_all_arguments (i + 1) (drop (i + 1) jobs) (with_arguments (frame_base_of i) b job.image.slots job.args)
with_all-next jobs i job b inside is =
    rw (drop_more jobs i job inside, is, add-one i)
