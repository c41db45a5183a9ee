-- What is shown of the state of straight code, and what the code of an expression leaves.
use Rattle.std.proofs.Common.{◌≡◌, ◌≢◌, ℕ, ◌+◌, ◌-◌, ◌*◌, ◌%◌, ◌^◌, ◌<◌, ◌≤◌, Bool, false, nat_lt, List, None, Some, inl}
use Rattle.std.proofs.Common.{inr, length, slice_get, slice_index, refl, ap, ◌∙◌, arith, sym}
use Rattle.expression_code.proofs.Below.{ByteMap, control_location, control_offset, is_unread}
use Rattle.expression_code.proofs.Below.{array_as, FlatVariable, TermHasType, home_of, InRegister}
use Rattle.expression_code.proofs.Below.{InSlot, IsWithinKind, Kind, Location, ltb-false, ltb-true}
use Rattle.expression_code.proofs.Below.{next_offset, number_at, number_at-with_number, number_at_same, numbers_in}
use Rattle.expression_code.proofs.Below.{operand, Profile, result_offset, slot_of, State, StraightState}
use Rattle.expression_code.proofs.Below.{TermTree, types_of, value_in, Values, with_number}
use Rattle.expression_code.proofs.Below.{with_number_below, WordType}
use Rattle.expression_code.proofs.Below.{element_bytes, Mirror, mirror_of, sum_of}
use Rattle.std.proofs.lemmas.Bool.{cond_both}
use Rattle.expression_code.specs.Below.{Uint32}
use Rattle.expression_code.proofs.Frame.{Setting, base_of, HeldAt, Held, layout_of, terms_at}
use Rattle.expression_code.proofs.Fitting.{AreOfKinds, value_fits}
use Rattle.expression_code.proofs.Arithmetic.{mask_of}
use Rattle.expression_code.proofs.WorkRegisters.{IsHome, works_in, works_at, home_stays, lower_stays}
use Rattle.expression_code.proofs.WorkRegisters.{stays_spare, at_operand, cases_Option}
use Rattle.expression_code.proofs.Places.{bytes_of, place_of, place_within, ends_before_result}

-- bytes below an offset are as they were
abbrev pub Kept : Setting → ℕ → State → State → Type 0
Kept z free s t = (o : ℕ) → o < free → t.bytes (z.frame + o) ≡ s.bytes (z.frame + o)

-- a location has this word
abbrev pub Holds : Setting → Location → State → ℕ → Type 0
Holds z (InRegister r) t v = t.regs r ≡ v
Holds z (InSlot o) t v = number_at t.bytes 4 (z.frame + o) ≡ Some v

-- each variable has its values where the layout puts them or in its home, and so has each control value that is read
-- its mask; each mirror follows its variable
pub record Ready (z : Setting) (env : StraightState) (s : State) : Type 0 where
  pub held : Held z env s
  -- the values are within their kinds
  pub fits : AreOfKinds (types_of z.code.profile z.declared) env.variables
  pub homes_there : (x home : ℕ) (d : FlatVariable) → slice_get z.declared x ≡ Some d
      → home_of z.allocation.homes x ≡ Some home → s.regs home ≡ slice_index (env.variables x) 0
  pub variables_there : (x : ℕ) (d : FlatVariable) (i : ℕ) → slice_get z.declared x ≡ Some d
      → home_of z.allocation.homes x ≡ None → i < numbers_in d.elements
      → number_at s.bytes (bytes_of d) (z.frame + place_of z.laid x d i) ≡ Some (slice_index (env.variables x) i)
  pub controls_there : (c : ℕ) → c < z.controls → is_unread z.allocation c ≡ false
      → Holds z (control_location (layout_of z) c) s (mask_of (env.controls c))
  pub mirrors_there : (x home : ℕ) (mirror : Mirror) → mirror_of z.allocation x ≡ Some mirror
      → home_of z.allocation.homes x ≡ Some home
      → s.regs mirror.register ≡ sum_of (element_bytes mirror.kind * s.regs home) z.frame

-- registers that do not work are as they were
abbrev pub Leaves : (ℕ → Bool) → State → State → Type 0
Leaves works s t = (q : ℕ) → works q ≡ false → t.regs q ≡ s.regs q

-- so are those that may be homes
abbrev pub HomesKept : Setting → State → State → Type 0
HomesKept z s t = (r : ℕ) → IsHome z.allocation.count r → t.regs r ≡ s.regs r

-- the temporaries from a place on are written, and where the expression is, its value is found
pub record Valued (z : Setting) (e : TermTree) (free place : ℕ) (env : StraightState) (s t : State) : Type 0 where
  pub held : Held z env t
  pub there : Holds z (operand (terms_at z free) place e) t (value_in env.variables e)
  pub kept : Kept z (slot_of z.allocation.count free place) s t
  pub lower : Leaves (works_in z.allocation.count place) s t

-- the same where its value comes into a register
pub record ValuedIn (z : Setting) (e : TermTree) (free d place : ℕ) (env : StraightState) (s t : State) : Type 0 where
  pub held : Held z env t
  pub there : t.regs d ≡ value_in env.variables e
  pub kept : Kept z (slot_of z.allocation.count free place) s t
  pub lower : Leaves (works_at z.allocation.count place d) s t

-- so a number is where its bytes are
pub number_same : (z : Setting) (s t : State) (n o : ℕ)
    → ((b : ℕ) → o ≤ b → b < o + n → t.bytes (z.frame + b) ≡ s.bytes (z.frame + b))
    → number_at t.bytes n (z.frame + o) ≡ number_at s.bytes n (z.frame + o)
number_same z s t n o same =
    number_at_same s.bytes t.bytes n (z.frame + o)
    (λ x low high.
    let e : z.frame + (x - z.frame) ≡ x = omega arith in
    ap t.bytes (sym e) ∙ (same (x - z.frame) (omega arith) (omega arith) ∙ ap s.bytes e))

pub kept_number : (z : Setting) (free : ℕ) (s t : State) → Kept z free s t → (n o : ℕ) → o + n ≤ free
    → number_at t.bytes n (z.frame + o) ≡ number_at s.bytes n (z.frame + o)
kept_number z free s t kept n o inside = number_same z s t n o (λ b low high. kept b (omega arith))

pub kept_less : (z : Setting) (low free : ℕ) (s t : State) → low ≤ free → Kept z free s t → Kept z low s t
kept_less z low free s t less kept o below = kept o (omega arith)

pub kept_by : (z : Setting) (free : ℕ) (s t : State) → t.bytes ≡ s.bytes → Kept z free s t
kept_by z free s t same o below = ap (λ (b : ByteMap). b (z.frame + o)) same

pub kept_then : (z : Setting) (free : ℕ) (s t u : State) → Kept z free s t → Kept z free t u → Kept z free s u
kept_then z free s t u one other o below = other o below ∙ one o below

-- a number of so many bytes is written into the frame, and no home
pub record Wrote (z : Setting) (n o w : ℕ) (s t : State) : Type 0 where
  pub held : HeldAt z t
  pub written : t.bytes ≡ with_number s.bytes n (z.frame + o) w
  pub homes : HomesKept z s t

pub wrote_kept : (z : Setting) (n o w : ℕ) (s t : State) → Wrote z n o w s t → Kept z o s t
wrote_kept z n o w s t wrote x below =
    ap (λ (b : ByteMap). b (z.frame + x)) wrote.written
    ∙ with_number_below s.bytes n (z.frame + o) w (z.frame + x) (omega arith)

pub wrote_there : (z : Setting) (o v : ℕ) (s t : State) → Wrote z 4 o v s t → v < 2 ^ 32
    → number_at t.bytes 4 (z.frame + o) ≡ Some v
wrote_there z o v s t wrote below =
    let cut : v % 256 ^ 4 ≡ v = omega arith in
    ap (λ (b : ByteMap). number_at b 4 (z.frame + o)) wrote.written
    ∙ (number_at-with_number s.bytes 4 (z.frame + o) v ∙ ap Some cut)

-- an array is laid out as it is typed
pub array_lies : (z : Setting) (x size : ℕ) (word : WordType) (mutable : Bool)
    → slice_get z.declared x ≡ Some (array_as word mutable size)
    → slice_get z.laid x ≡ Some (array_as word mutable size)
array_lies z x size word mutable is =
    let array = array_as word mutable size in
    z.lies x array is (z.allocated.words x array size is refl)

pub place_before : (z : Setting) (x : ℕ) (d : FlatVariable) (i : ℕ) → slice_get z.laid x ≡ Some d
    → i < numbers_in d.elements → place_of z.laid x d i + bytes_of d ≤ result_offset z.laid
place_before z x d i is below =
    omega (arith, place_within z.laid x d i below, ends_before_result z.laid x d is)

-- so inside the frame
pub place_ends : (z : Setting) (x : ℕ) (d : FlatVariable) (i : ℕ) → slice_get z.laid x ≡ Some d
    → i < numbers_in d.elements → place_of z.laid x d i + bytes_of d ≤ z.size
place_ends z x d i is below = omega (arith, place_before z x d i is below, z.room)

-- homes stay where no register is written but those of temporaries
pub homes_left : (z : Setting) (place : ℕ) (s t : State) → Leaves (works_in z.allocation.count place) s t
    → HomesKept z s t
homes_left z place s t lower r home = lower r (home_stays z.allocation.count place r home.0 home.1)

pub homes_then : (z : Setting) (s t u : State) → HomesKept z s t → HomesKept z t u → HomesKept z s u
homes_then z s t u one other r home = other r home ∙ one r home

pub homes_by : (z : Setting) (s t : State) → t.regs ≡ s.regs → HomesKept z s t
homes_by z s t same r home = ap (λ (regs : ℕ → ℕ). regs r) same

-- so do the variables that live there
pub variables_home : (z : Setting) (env : StraightState) (s t : State) → Ready z env s → HomesKept z s t
    → (x home : ℕ) (d : FlatVariable) → slice_get z.declared x ≡ Some d → home_of z.allocation.homes x ≡ Some home
    → t.regs home ≡ slice_index (env.variables x) 0
variables_home z env s t ready homes x home d is at = homes home (z.allocated.allowed x home at)
    ∙ ready.homes_there x home d is at

-- a mirror is a register that may be a home
pub mirror_register : (z : Setting) (x : ℕ) (mirror : Mirror) → mirror_of z.allocation x ≡ Some mirror
    → IsHome z.allocation.count mirror.register
mirror_register z x mirror is = let m = z.allocated.mirrored x mirror is in (m.1, m.2)

-- mirrors stay too
pub mirrors_kept : (z : Setting) (env : StraightState) (s t : State) → Ready z env s → HomesKept z s t
    → (x home : ℕ) (mirror : Mirror) → mirror_of z.allocation x ≡ Some mirror
    → home_of z.allocation.homes x ≡ Some home
    → t.regs mirror.register ≡ sum_of (element_bytes mirror.kind * t.regs home) z.frame
mirrors_kept z env s t ready homes x home mirror is at =
    homes mirror.register (mirror_register z x mirror is)
    ∙ (ready.mirrors_there x home mirror is at
    ∙ ap (λ v. sum_of (element_bytes mirror.kind * v) z.frame) (sym (homes home (z.allocated.allowed x home at))))

-- where a control value is: in its home, or in its slot
pub at_control : (z : Setting) (c : ℕ) (P : Location → Type 0)
    → ((home : ℕ) → home_of z.allocation.homes (length z.laid + c) ≡ Some home → P (InRegister home))
    → (home_of z.allocation.homes (length z.laid + c) ≡ None → P (InSlot (control_offset z.laid c)))
    → P (control_location (layout_of z) c)
at_control z c P in_home in_slot =
    elim (cases_Option (home_of z.allocation.homes (length z.laid + c))) [
      | inl found ↦ rw found.1 (in_home found.0 found.1)
      | inr at ↦ rw at (in_slot at)
    ]

-- its mask stays there
pub control_stays : (z : Setting) (c v : ℕ) (s t : State)
    → ((home : ℕ) → home_of z.allocation.homes (length z.laid + c) ≡ Some home → t.regs home ≡ s.regs home)
    → number_at t.bytes 4 (z.frame + control_offset z.laid c)
    ≡ number_at s.bytes 4 (z.frame + control_offset z.laid c)
    → Holds z (control_location (layout_of z) c) s v
    → Holds z (control_location (layout_of z) c) t v
control_stays z c v s t homes slot =
    at_control z c (λ l. Holds z l s v → Holds z l t v) (λ home at there. homes home at ∙ there)
    (λ away there. slot ∙ there)

-- where no home is written
pub controls_kept : (z : Setting) (env : StraightState) (s t : State) → Ready z env s → HomesKept z s t
    → (c : ℕ) → c < z.controls → is_unread z.allocation c ≡ false
    → number_at t.bytes 4 (z.frame + control_offset z.laid c)
    ≡ number_at s.bytes 4 (z.frame + control_offset z.laid c)
    → Holds z (control_location (layout_of z) c) t (mask_of (env.controls c))
controls_kept z env s t ready homes c among read slot =
    control_stays z c (mask_of (env.controls c)) s t
    (λ home at. homes home (z.allocated.allowed (length z.laid + c) home at)) slot
    (ready.controls_there c among read)

-- the others stay where nothing before the result is written
pub variables_kept : (z : Setting) (free : ℕ) (env : StraightState) (s t : State) → result_offset z.laid ≤ free
    → Ready z env s → Kept z free s t
    → (x : ℕ) (d : FlatVariable) (i : ℕ) → slice_get z.declared x ≡ Some d → home_of z.allocation.homes x ≡ None
    → i < numbers_in d.elements
    → number_at t.bytes (bytes_of d) (z.frame + place_of z.laid x d i) ≡ Some (slice_index (env.variables x) i)
variables_kept z free env s t above ready kept x d i is away below =
    kept_number z free s t kept (bytes_of d) (place_of z.laid x d i)
    (omega (arith, place_before z x d i (z.lies x d is away) below, above)) ∙ ready.variables_there x d i is away below

-- what is shown stays shown where nothing before the loops' words is
pub ready_below : (z : Setting) (free : ℕ) → next_offset (layout_of z) 0 ≤ free
    → (env : StraightState) (s t : State) → Ready z env s → HeldAt z t → Kept z free s t → HomesKept z s t
    → Ready z env t
ready_below z free above env s t ready held kept homes = record {
  held = held;
  fits = ready.fits;
  homes_there = variables_home z env s t ready homes;
  variables_there = variables_kept z free env s t (omega arith) ready kept;
  controls_there = λ c below read. controls_kept z env s t ready homes c below read
      (kept_number z free s t kept 4 (control_offset z.laid c) (omega arith));
  mirrors_there = mirrors_kept z env s t ready homes;
}

pub ready_after : (z : Setting) (env : StraightState) (s t : State) → Ready z env s → Held z env t
    → Kept z (base_of z) s t → HomesKept z s t → Ready z env t
ready_after z env s t = ready_below z (base_of z) (omega arith) env s t

-- what is within a kind is a word
pub kind_fits : (kind : Kind) (v : ℕ) → IsWithinKind kind v → v < 2 ^ 32
kind_fits Uint32 v h = h
kind_fits kind v h = omega arith

-- a well-typed expression's value is a word
pub value_word : (profile : Profile) (declared : List FlatVariable) (e : TermTree) (word : WordType) (m : Values)
    → AreOfKinds (types_of profile declared) m → TermHasType (types_of profile declared) e word → value_in m e < 2 ^ 32
value_word profile declared e word m fits has =
    kind_fits word.kind (value_in m e) (value_fits (types_of profile declared) m fits has)

-- Temporaries stay.

pub leaves_then : (works : ℕ → Bool) (s t u : State) → Leaves works s t → Leaves works t u → Leaves works s u
leaves_then works s t u one other q h = other q h ∙ one q h

-- where only a spare register has changed
pub leaves_spare : (count place spare : ℕ) (s t : State) → 27 < spare → ((q : ℕ) → q ≢ spare → t.regs q ≡ s.regs q)
    → Leaves (works_in count place) s t
leaves_spare count place spare s t low others q h = others q (omega (arith, stays_spare count place q h, low))

-- What is at the operand of a place stays where its register, its slot and the homes do: where the code of a higher
-- place has run, and where only a spare register has changed.
module _ (z : Setting) (free less place v : ℕ) (s t : State) where
  abbrev count : ℕ
  count = z.allocation.count

  abbrev Stays : Location → Type 0
  Stays l = Holds z l s v → Holds z l t v

  operand_stays : (less < count → t.regs (5 + less) ≡ s.regs (5 + less))
      → (count ≤ less → number_at t.bytes 4 (z.frame + slot_of count free less)
      ≡ number_at s.bytes 4 (z.frame + slot_of count free less))
      → HomesKept z s t → (e : TermTree) → Stays (operand (terms_at z free) less e)
  operand_stays register slot homes =
      at_operand (terms_at z free) z.allocated less Stays
      (cond_both (nat_lt less count) (InRegister (5 + less)) (InSlot (slot_of count free less)) Stays
      (λ h there. register (ltb-true less count h) ∙ there) (λ h there. slot (ltb-false less count h) ∙ there))
      (λ home is there. homes home is ∙ there)

  pub holds_lower : less < place → Kept z (slot_of count free place) s t → Leaves (works_in count place) s t
      → (e : TermTree) → Stays (operand (terms_at z free) less e)
  holds_lower below kept lower =
      operand_stays (λ small. lower (5 + less) (lower_stays count place less below small z.allocated.few))
      (λ high. kept_number z (slot_of count free place) s t kept 4 (slot_of count free less) (omega arith))
      (homes_left z place s t lower)

  pub holds_still : (spare : ℕ) → 27 < spare → ((q : ℕ) → q ≢ spare → t.regs q ≡ s.regs q) → t.bytes ≡ s.bytes
      → (e : TermTree) → Stays (operand (terms_at z free) less e)
  holds_still spare low others same =
      operand_stays (λ small. others (5 + less) (omega arith))
      (λ high. ap (λ (b : ByteMap). number_at b 4 (z.frame + slot_of count free less)) same)
      (λ home is. others home (omega arith))
