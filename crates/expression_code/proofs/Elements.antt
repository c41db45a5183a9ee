-- Elements of arrays: the address of one, from its index in a register, and its value in a register, at an index that
-- is a number or in a register.
use Rattle.std.proofs.Common.{◌≡◌, ◌≢◌, ℕ, ◌+◌, ◌*◌, ◌^◌, ◌<◌, Bool, true, false, cond, nat_lt, List, [], ◌∷◌, ◌++◌}
use Rattle.std.proofs.Common.{refl, ap, ap₂, ◌∙◌, arith, inl, inr, ◌==◌, ne_eqb, ◌%◌, Some, slice_get, slice_index, sym}
use Rattle.rv_code.specs.declared.instructions.Instr.TheVariants as instr
use Rattle.expression_code.specs.Below.{Add, Boolean, Lui, Uint16}
use Rattle.expression_code.proofs.Below.{address_code, address_of, after_append, byte_count, cheaper}
use Rattle.expression_code.proofs.Below.{element_bytes, Instr, Kind, load_by, load_size, loaded_value}
use Rattle.expression_code.proofs.Below.{lower_part, lt-ltb, nat_tests, none, only_computes}
use Rattle.expression_code.proofs.Below.{plain_append, registers_after, scale_code, sign_extended, State}
use Rattle.expression_code.proofs.Below.{StraightState, sum_of, upper_part, weaken, along, array_as}
use Rattle.expression_code.proofs.Below.{as_code, ByteMap, element, element_code, gives, indexed}
use Rattle.expression_code.proofs.Below.{kind_at, MarkKnown, near_code, NearPlace, number_at}
use Rattle.expression_code.proofs.Below.{number_or_zero, Path, Place, quiet, TermTree, value_in}
use Rattle.expression_code.proofs.Below.{WordType}
use Rattle.expression_code.proofs.Arithmetic.{upper_fits, lower_fits}
use Rattle.expression_code.proofs.OperatorCode.{either_of, dd, td, d0, d32, q0, q32, low_beside}
use Rattle.expression_code.proofs.OperatorCode.{kept_beside}
use Rattle.expression_code.proofs.TermLengths.{address_length}
use Rattle.expression_code.proofs.Frame.{Setting, Runs, HeldAt, Held, setting}
use Rattle.expression_code.proofs.WorkRegisters.{IsFree, ArePair, free_from, IsTarget, works_at}
use Rattle.expression_code.proofs.WorkRegisters.{target_works, spare_works, not_written}
use Rattle.expression_code.proofs.Moves.{register-at, computing_within, is_written, is_left, loading}
use Rattle.expression_code.proofs.Events.{by_index}
use Rattle.expression_code.proofs.Mirrors.{IsReached}
use Rattle.expression_code.proofs.Indices.{IsPart}
use Rattle.expression_code.proofs.Operands.{RegisterOutcome}
use Rattle.expression_code.proofs.Places.{place_of, place_even, kind_known}
use Rattle.expression_code.proofs.Values.{array_lies, Leaves, Ready, ValuedIn, place_ends}
use Rattle.expression_code.proofs.OperandRuns.{made, none_yet, Slots, still_ready, steps_of}

-- with the lower part of the offset it is the address of an element
pub record Addressed (z : Setting) (r o a : ℕ) (env : StraightState) (s t : State) : Type 0 where
  pub held : Held z env t
  pub address : address_of t.regs r (lower_part o) ≡ z.frame + a
  pub others : (q : ℕ) → q ≢ r → q ≢ 28 → t.regs q ≡ s.regs q
  pub same : t.bytes ≡ s.bytes

-- what raising an address makes of a number
abbrev raised : Bool → ℕ → ℕ → ℕ
raised near o v = cond near v (sum_of v (upper_part o * 2 ^ 12))

element_address : (frame o i a : ℕ) → (o + i) % 2 ^ 32 ≡ a → frame + a < 2 ^ 32
    → sum_of (raised (nat_lt o 2048) o (sum_of i frame)) (sign_extended 12 (lower_part o)) ≡ frame + a
element_address frame o i a is below = grind (arith, nat_tests)

-- an element's load takes the element's bytes, as they are
pub load_bytes : (kind : Kind) → byte_count (load_size (load_by kind)) ≡ element_bytes kind
load_bytes Boolean = refl
load_bytes kind = refl

pub load_plain : (kind : Kind) (v : ℕ) → loaded_value (load_by kind) v ≡ v
load_plain Boolean v = refl
load_plain kind v = refl

-- From an index in r, into d.
module _ (z : Setting) (d r : ℕ) (target : IsFree d) (source : IsFree r) (apart : d ≢ 28) where
  pub pair : ArePair d 28
  pair = record { one = target; other = free_from 28 (omega arith) (omega arith); apart = apart }

  d2 : (2 == d) ≡ false
  d2 = ne_eqb 2 d (omega arith)

  -- an index times the bytes of an element, on the base
  pub scaled : (kind : Kind) → (only_computes (either_of d 28) (scale_code d r kind) ≡ true)
      × ((regs : ℕ → ℕ)
      → registers_after (scale_code d r kind) regs d ≡ sum_of (element_bytes kind * regs r) (regs 2))
  scaled Uint16 = (
    simp (dd pair, d32 pair, q32 pair source),
    λ regs. simp (dd pair, d0 pair, q0 pair source, d2) (omega arith),
  )
  scaled kind = (
    simp (dd pair, d32 pair, q32 pair source),
    λ regs. simp (dd pair, d0 pair, q0 pair source, d2) (omega arith),
  )

  -- the upper part of an offset
  abbrev raise_by : Bool → ℕ → List Instr
  raise_by near o = cond near [] (instr.Upper Lui 28 (upper_part o) ∷ instr.Register Add d d 28 ∷ [])

  raises : (near : Bool) (o : ℕ) → (only_computes (either_of d 28) (raise_by near o) ≡ true)
      × ((regs : ℕ → ℕ) → registers_after (raise_by near o) regs d ≡ raised near o (regs d))
  raises true o = (refl, λ regs. refl)
  raises false o = (
    simp (dd pair, d32 pair, td pair, lt-ltb (upper_part o) 1048576 (upper_fits o)),
    λ regs. simp (dd pair, d0 pair, ne_eqb d 28 apart),
  )

  -- An index becomes its element's address, modulo 2^32.
  pub address_runs : (kind : Kind) (o : ℕ) (index at : StraightState → ℕ)
      → Runs z 4 none (address_code d r kind o)
      (λ env s. HeldAt z s × (s.regs r ≡ index env) × ((o + element_bytes kind * index env) % 2 ^ 32 ≡ at env)
      × (z.frame + at env < 2 ^ 32))
      (λ env s t. Addressed z d o (at env) env s t)
  address_runs kind o index at =
      let near = nat_lt o 2048 in
      let scale = scale_code d r kind in
      let plain = plain_append (either_of d 28) scale (raise_by near o) (scaled kind).0 (raises near o).0 in
      cheaper (address_length d r kind o)
      (weaken
      (λ env s fine fit. fit.0)
      (λ env s t fine fit done.
      let i = element_bytes kind * index env in
      let is : element_bytes kind * s.regs r ≡ i = ap (λ x. element_bytes kind * x) fit.1 in
      let all : t.regs d ≡ raised near o (sum_of i z.frame) =
      ap (λ (regs : ℕ → ℕ). regs d) (done.registers ∙ after_append scale (raise_by near o) s.regs)
      ∙ ((raises near o).1 (registers_after scale s.regs)
      ∙ ap (raised near o) ((scaled kind).1 s.regs ∙ ap₂ sum_of is fit.0.base)) in
      record {
        held = done.held;
        address = ap (λ x. sum_of x (sign_extended 12 (lower_part o))) (register-at t.regs d target.nonzero ∙ all)
            ∙ element_address z.frame o i (at env) fit.2 fit.3;
        others = λ q other another. ap (λ (regs : ℕ → ℕ). regs q) done.registers
            ∙ kept_beside pair (scale ++ raise_by near o) plain s.regs q other another;
        same = done.same;
      })
      (computing_within z (either_of d 28) (scale ++ raise_by near o) plain (low_beside pair)))

-- Into a register comes an element's value.

module _ (slots : Slots) (place d : ℕ) (target : IsTarget slots.z.allocation.count place d) where
  open slots use {z, free}

  abbrev works : ℕ → Bool
  works = works_at z.allocation.count place d

  own : works d ≡ true
  own = target_works z.allocation.count place d

  -- The element at an index, where its address is known.
  loaded : (source : Place) (x size : ℕ) (word : WordType) (mutable : Bool) (i : ℕ) (index : TermTree)
      → slice_get z.declared x ≡ Some (array_as word mutable size) → i < size
      → (rs offset : ℕ) → rs < 32 → offset < 4096
      → Runs z 1 none (instr.Load (load_by word.kind) d rs offset ∷ [])
      (λ env s. HeldAt z s
      × (address_of s.regs rs offset ≡ z.frame + place_of z.laid x (array_as word mutable size) i)
      × (number_at s.bytes (element_bytes word.kind)
      (z.frame + place_of z.laid x (array_as word mutable size) i) ≡ Some (slice_index (env.variables x) i))
      × (value_in env.variables index ≡ i))
      (λ env s t. RegisterOutcome z works d (value_in env.variables (element source x size index)) s t)
  loaded source x size word mutable i index known below rs offset small short =
      let array = array_as word mutable size in
      let a = place_of z.laid x array i in
      let bytes = load_bytes word.kind in
      weaken
      (λ env s fine given. (given.0, given.1))
      (λ env s t fine given two. record {
        held = two.0;
        there =
            is_written s.regs d _ two.1.regs target.free.nonzero
            ∙ (load_plain word.kind _
            ∙ (ap (λ n. number_or_zero (number_at s.bytes n (z.frame + a))) bytes
            ∙ (ap number_or_zero given.2 ∙ ap (slice_index (env.variables x)) (sym given.3))));
        others = λ q other. is_left s.regs d _ two.1.regs q (not_written works q d other own);
        same = two.1.bytes;
      })
      (loading z rs offset a small short (load_by word.kind) d target.free.low target.free.small
      (ap (λ n. a % n) bytes ∙ place_even z.laid x array i) (omega (
        arith,
        place_ends z x array i
            (array_lies z x size word mutable known) below,
      )))

  -- and that at an index of which a part is in a register, where an offset makes up for the rest
  pub picked : (r : ℕ) → IsFree r
      → (source : Place) (x size : ℕ) (word : WordType) (mutable : Bool) (i : ℕ) (index part : TermTree) (o : ℕ)
      → slice_get z.declared x ≡ Some (array_as word mutable size) → i < size
      → IsPart z x size word mutable index part o
      → Runs z 5 none (element_code d r word.kind o)
      (MarkKnown (setting z) ℕ (λ j. j < size) (λ env s. Ready z env s × (s.regs r ≡ value_in env.variables part))
      (λ env. value_in env.variables index) i)
      (λ env s t. RegisterOutcome z works d (value_in env.variables (element source x size index)) s t)
  picked r at source x size word mutable i index part o known below computed =
      let array = array_as word mutable size in
      let a = place_of z.laid x array i in
      let away = z.allocated.words x array size known refl in
      let lies = array_lies z x size word mutable known in
      gives
      (λ env s t fine given done.
      let one = done.first in
      let two = done.second in
      let others : Leaves works s t = λ q other.
      two.others q other
      ∙ one.others q (not_written works q d other own)
      (not_written works q 28 other (spare_works z.allocation.count place d 28 (omega arith))) in
      assumption (two.same ∙ one.same))
      (quiet
      (weaken
      (λ env s fine given.
      let at = computed.at i below env.variables given.is in
      (given.given.0.held, given.given.1, at, omega (arith, place_ends z x array i lies below)))
      (λ env s t fine given done. done)
      (address_runs z d r target.free at target.no_address word.kind o (λ env. value_in env.variables part)
      (λ env. a)))
      (loaded source x size word mutable i index known below d (lower_part o) target.free.small (lower_fits o))
      (λ env s t given done. assumption (
      ap (λ (b : ByteMap). number_at b (element_bytes word.kind) (z.frame + a)) done.same
      ∙ given.given.0.variables_there x array i known away below)))

  -- so the element at an index where its access reaches it at once
  pub near_runs : (source : Place) {x size : ℕ} {index : TermTree} {word : WordType} {mutable : Bool}
      → slice_get z.declared x ≡ Some (array_as word mutable size)
      → (at : NearPlace) → IsReached z x size word mutable index at
      → Runs z 1 (steps_of (element source x size index)) (near_code d (kind_at z.laid x) at) (Ready z)
      (ValuedIn z (element source x size index) free d place)
  near_runs source {x = x} {size = size} {index = index} {word = word} {mutable = mutable} is at reached =
      let array = array_as word mutable size in
      let lies = array_lies z x size word mutable is in
      let kind = kind_known z.laid x array lies in
      as_code (ap (λ k. near_code d k at) kind)
      (along (λ env. ap (λ (p : Path). p ++ indexed source size (value_in env.variables index) ∷ [])
      (reached.quiet env.variables))
      (made slots place (λ j. index) d (none_yet slots place (λ j. index))
      (by_index z source size (λ env. value_in env.variables index)
      (λ i below.
      weaken {P' = MarkKnown (setting z) ℕ (λ j. j < size) (Ready z) (λ env. value_in env.variables index) i}
      (λ env s fine given. (
        given.given.held,
        reached.at i below env s given.given given.is,
        given.given.variables_there x array i is (z.allocated.words x array size is refl) below,
        given.is,
      ))
      (λ env s t fine given done. done)
      (loaded source x size word mutable i index is below at.base at.offset
      (elim reached.base [ inl frame ↦ omega arith | inr home ↦ omega arith ]) (omega (arith, reached.near)))))
      (λ env s t ready done. still_ready slots place env s t ready done.held done.kept done.lower)))
