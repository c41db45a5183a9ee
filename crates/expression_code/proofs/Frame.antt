-- Where code and frame lie: the setting of all pieces of code here. They are run beside a state of straight code, the
-- marks of a path are those of the inlined program, and all accesses stay inside the frame.
use Rattle.std.proofs.Common.{◌≡◌, ◌⊎◌, inl, inr, ℕ, zero, suc, ◌+◌, ◌%◌, ◌^◌, ◌<◌, ◌≤◌, Bool, true, false, ◌&&◌, List}
use Rattle.std.proofs.Common.{[], ◌∷◌, ◌++◌, length, All, Option, Some, None, is_some, slice_get, refl, ap, ◌∙◌, arith}
use Rattle.expression_code.proofs.Below.{Allocation, AreFine, byte_count, ByteMap, MachineCode}
use Rattle.expression_code.proofs.Below.{FlatVariable, home_of, Instr, code_by, IsAllocation, IsInside}
use Rattle.expression_code.proofs.Below.{joined, Mark, number_at, number_at-suc, number_at-zero}
use Rattle.expression_code.proofs.Below.{Observation, Path, seen-append, Size, State, StraightState}
use Rattle.expression_code.proofs.Below.{temporaries_offset, with_number, with_number_above}
use Rattle.expression_code.proofs.Below.{with_number_below}
use Rattle.expression_code.specs.Below.{seen as seen_of}
use Rattle.expression_code.specs.Layout.{Frame, TermLayout}
use Rattle.expression_code.proofs.program_logic_lemmas.Face as logic
use Rattle.rv_machine.specs.declared.observation.Event.TheVariants as event

-- where code and frame lie, how the frame is laid out, how registers are given out, and how many iterations are counted
-- for each counter; variables as they are typed, and as they are laid out: one without a home is so as it is typed
pub record Setting : Type 0 where
  pub code : MachineCode
  pub frame : ℕ
  pub size : ℕ
  pub counts : List ℕ
  pub declared : List FlatVariable
  pub laid : List FlatVariable
  pub controls : ℕ
  pub depths : ℕ
  pub allocation : Allocation
  pub allocated : IsAllocation declared allocation
  pub as_many : length laid ≡ length declared
  pub lies : (x : ℕ) (d : FlatVariable) → slice_get declared x ≡ Some d → home_of allocation.homes x ≡ None
      → slice_get laid x ≡ Some d
  pub even : frame % 4 ≡ 0
  pub ends : frame + size < 2 ^ 32
  pub room : temporaries_offset (record {
    declared = laid;
    controls = controls;
    depths = depths;
    allocation = allocation;
  }) ≤ size

-- how the frame is laid out
abbrev pub layout_of : Setting → Frame
layout_of z = record { declared = z.laid; controls = z.controls; depths = z.depths; allocation = z.allocation }

-- what the code of expressions goes by, where the slots of temporaries begin at this offset
abbrev pub terms_at : Setting → ℕ → TermLayout
terms_at z free = record { declared = z.laid; allocation = z.allocation; free = free }

-- where the temporaries begin
abbrev pub base_of : Setting → ℕ
base_of z = temporaries_offset (layout_of z)

-- what the observer of the code sees of a path
abbrev pub seen_by : Setting → Path → Path
seen_by z path = seen_of z.code.profile path

-- a path in two parts is fine where both are

pub fine_left : (counts : List ℕ) (one other : Path) → AreFine counts (one ++ other) → AreFine counts one
fine_left counts [] other h = tt
fine_left counts (x ∷ one) other h = (h.0, fine_left counts one other h.1)

pub fine_right : (counts : List ℕ) (one other : Path) → AreFine counts (one ++ other) → AreFine counts other
fine_right counts [] other h = h
fine_right counts (x ∷ one) other h = fine_right counts one other h.1

-- what no code here touches: the registers below x5, and the bytes beside the frame
pub record Keeps (z : Setting) (s t : State) : Type 0 where
  pub regs : (r : ℕ) → r < 5 → t.regs r ≡ s.regs r
  pub beside : (a : ℕ) → (a < z.frame) ⊎ (z.frame + z.size ≤ a) → t.bytes a ≡ s.bytes a

-- each step keeps that, and its access is inside the frame
abbrev pub setting : Setting → logic.PieceSetting
setting z = record {
  code = z.code;
  Each = λ s event t. Keeps z s t × IsInside z.frame z.size event;
  each_still = λ s t still. (
    record {
      regs = λ r low. ap (λ (f : ℕ → ℕ). f r) still.regs;
      beside = λ a apart. ap (λ (b : ByteMap). b a) still.bytes;
    },
    tt,
  );
  Beside = StraightState;
  Mark = Mark;
  seen = λ path. seen_of z.code.profile path;
  seen_append = seen-append z.code.profile;
  seen_none = refl;
  Fine = λ path. AreFine z.counts path;
  fine_none = tt;
  fine_left = fine_left z.counts;
  fine_right = fine_right z.counts;
}

-- so all steps keep it, and so are all accesses
pub frame_kept : (z : Setting) {n : ℕ} {s t : State} {seen : List Observation}
    → logic.LeadsBy z.code (setting z).Each n s seen t
    → Keeps z s t × All (λ (o : Observation). IsInside z.frame z.size o.event) seen
frame_kept z leads = (
  logic.all_keep {Keeps = Keeps z} (λ s. record { regs = λ r low. refl; beside = λ a apart. refl })
      (λ s t u one other. record {
        regs = λ r low. other.regs r low ∙ one.regs r low;
        beside = λ a apart. other.beside a apart ∙ one.beside a apart;
      })
      (λ s event t each. each.0) leads,
  logic.all_show (λ event. IsInside z.frame z.size event) (λ s event t each. each.1) leads,
)

abbrev pub Before : Type 1
Before = StraightState → State → Type 0

abbrev pub After : Type 1
After = StraightState → State → State → Type 0

abbrev pub Steps : Type 0
Steps = StraightState → Path

-- instructions run wherever they stand, at most so many steps
abbrev pub Runs : Setting → ℕ → Steps → List Instr → Before → After → Type 0
Runs z cost steps is P Q = logic.Runs logic.at_most (setting z) cost steps is P Q

-- the code for what there is, and else other code
pub by_option : {z : Setting} {T : Type 0} {n : ℕ} {steps : Steps} {code : T → List Instr} {other : List Instr}
    {P : Before} {Q : After} (o : Option T)
    → ((x : T) → o ≡ Some x → Runs z n steps (code x) P Q) → (o ≡ None → Runs z n steps other P Q)
    → Runs z n steps (code_by o code other) P Q
by_option (Some x) some none = some x refl
by_option None some none = none refl

-- States of code that keeps to its frame.

-- x2 has the frame's base, and the frame's bytes are data
pub record HeldAt (z : Setting) (s : State) : Type 0 where
  pub base : s.regs 2 ≡ z.frame
  pub data_there : (o : ℕ) → o < z.size → is_some (s.bytes (z.frame + o)) ≡ true

-- beside any state of straight code
abbrev pub Held : Setting → StraightState → State → Type 0
Held z env s = HeldAt z s

is_some-joined : (a b : Option ℕ) → is_some (joined a b) ≡ (is_some a && is_some b)
is_some-joined (Some x) (Some y) = refl
is_some-joined a b = refl

-- a number is data where each of its bytes is
pub number_there : (bytes : ByteMap) (n a : ℕ) → ((i : ℕ) → i < n → is_some (bytes (a + i)) ≡ true)
    → is_some (number_at bytes n a) ≡ true
number_there bytes zero a there = ap is_some (number_at-zero bytes a)
number_there bytes (suc n) a there =
    let here : a ≡ a + 0 = omega arith in
    let head : is_some (bytes a) ≡ true = ap (λ x. is_some (bytes x)) here ∙ there 0 (omega arith) in
    let tail = number_there bytes n (a + 1) (λ i below. let e : a + 1 + i ≡ a + suc i = omega arith in
    ap (λ x. is_some (bytes x)) e ∙ there (suc i) (omega arith)) in
    rw (number_at-suc, is_some-joined, head, tail) refl

-- so many bytes in the frame are data
pub frame_there : (z : Setting) (s : State) → HeldAt z s → (n o : ℕ) → o + n ≤ z.size
    → is_some (number_at s.bytes n (z.frame + o)) ≡ true
frame_there z s held n o inside =
    number_there s.bytes n (z.frame + o) (λ i below. let e : z.frame + o + i ≡ z.frame + (o + i) = omega arith in
    ap (λ x. is_some (s.bytes x)) e ∙ held.data_there (o + i) (omega arith))

-- where registers change, but x2 does not
pub held_regs : (z : Setting) (s t : State) → t.regs 2 ≡ s.regs 2 → t.bytes ≡ s.bytes → HeldAt z s → HeldAt z t
held_regs z s t base same held = record {
  base = base ∙ held.base;
  data_there = λ o below. ap (λ (b : ByteMap). is_some (b (z.frame + o))) same ∙ held.data_there o below;
}

-- Straight-line code that writes no register below x5, with accesses inside the frame.

store_beside : (z : Setting) (a : ℕ) → (a < z.frame) ⊎ (z.frame + z.size ≤ a)
    → (bytes : ByteMap) (size : Size) (at v : ℕ) → IsInside z.frame z.size (Some (event.Store at size))
    → with_number bytes (byte_count size) at v a ≡ bytes a
store_beside z a (inl below) bytes size at v inside =
    with_number_below bytes (byte_count size) at v a (omega arith)
store_beside z a (inr above) bytes size at v inside =
    with_number_above bytes (byte_count size) at v a (omega arith)

pub frame_runs : (z : Setting) {P : Before} (works : ℕ → Bool) (is : List Instr) (places : List ℕ)
    → logic.are_straight works is ≡ true → ((r : ℕ) → r < 5 → works r ≡ false)
    → logic.AreFit (λ e. IsInside z.frame z.size e) is places
    → ((env : StraightState) (s : State) → P env s → HeldAt z s × logic.AreMet is places (logic.contents_of s))
    → Runs z (length is) logic.none is P (λ env s t. HeldAt z t × logic.Became is places s t)
frame_runs z works is places plain none_low fit met =
    logic.gives
    (λ env s t fine given became.
    let c = logic.contents_of s in
    let held = (met env s given).0 in (
      record {
        base = ap (λ (regs : ℕ → ℕ). regs 2) became.regs
            ∙ logic.register_kept works is places c 2 plain (none_low 2 (omega arith)) ∙ held.base;
        data_there = λ o below.
            ap (λ (b : ByteMap). is_some (b (z.frame + o))) became.bytes
            ∙ (logic.data_kept is places c (z.frame + o) (met env s given).1
            ∙ held.data_there o below);
      },
      became,
    ))
    (logic.by_symbols (setting z) works (λ event. IsInside z.frame z.size event) (λ c. Unit {0})
    (λ i a p c F ok may here. (
      (
        record {
          regs = λ r low. logic.register_after works i a c r ok (none_low r low);
          beside = λ x apart. logic.byte_after _ x (store_beside z x apart) i a c F may;
        },
        logic.one_allowed (λ event. IsInside z.frame z.size event) tt i a F may,
      ),
      tt,
    ))
    is places plain fit (λ env s given. ((met env s given).1, tt)))
