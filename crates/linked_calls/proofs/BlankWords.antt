-- The code of a frame in which the words that have to be are zeroed: x2 goes down, and each of few words is stored to; or
-- the frame is zeroed whole.
use Rattle.std.proofs.Common.{◌≡◌, ◌≢◌, ℕ, ◌+◌, ◌-◌, ◌%◌, ◌^◌, ◌<◌, ◌≤◌, ◌==◌, ◌&&◌, Bool, true, false, List, [], ◌∷◌}
use Rattle.std.proofs.Common.{◌++◌, length, Some, None, inl, inr, nat_lt, nat_le, cond, if◌then◌else◌, refl, sym}
use Rattle.std.proofs.Common.{ap, ◌∙◌, subst, arith, append_assoc, length-append, is_some, ⊎_elim}
use Rattle.std.specs.List.{AllByRecursion}
use Rattle.std.proofs.lemmas.Bool.{and_parts, cases_lt, eqb-false, eqb-true, leb-true, lt-ltb, ltb-true}
use Rattle.std.proofs.lemmas.Bool.Decides.{nat_tests}
use Rattle.expression_code.proofs.program_logic_lemmas.Counted.{as_code, computes_runs, in_steps, makes_then, no_code}
use Rattle.expression_code.proofs.program_logic_lemmas.Counted.{Runs}
use Rattle.expression_code.proofs.program_logic_lemmas.Counted.{Setting, then_runs, weaken_runs}
use Rattle.compilation.specs.Blank.{Blank, IsBlank, IsZeroWord}
use Rattle.linked_calls.proofs.Below.{added, AreBytes, AreData, AreZeroed, ByteMap, constant_code, Data, difference_of}
use Rattle.linked_calls.proofs.Below.{frame_steps, HasFrame, Instr, Register, sign_extended, stores_code}
use Rattle.linked_calls.proofs.Below.{Sub, sum_of, unwritten, with_number, with_register, with_result, written}
use Rattle.linked_calls.proofs.Bytes.{IsOutside, zero_number}
use Rattle.linked_calls.proofs.ByteData.{zeroed_stays}
use Rattle.linked_calls.proofs.Parts.{number_then, stores_from}
use Rattle.linked_calls.proofs.SectionSteps.{steps_for}
use Rattle.linked_calls.proofs.Zeros.{MayZero, zeroed_runs}
use Rattle.linked_calls.specs.Below.{Addi, Immediate}
use Rattle.linked_calls.specs.FunctionCode.{all_fit, are_few, blank_code, blanks_code, fits_frame, frame_code}
use Rattle.linked_calls.specs.FunctionCode.{lowered_code, partly_code, zeroed_code}
use Rattle.linked_calls.specs.Paces.{most_blanks}
use Rattle.linked_calls.specs.declared.pace.Pace.{Pace}

-- the frame's words that have to be are zeros, x2 is its base, and nothing else has changed but bytes of the frame and x5
pub record IsReadied (blank : Blank) (size bottom room : ℕ) (s t : Data) : Type 0 where
  pub stack : t.regs 2 ≡ bottom
  pub others : (q : ℕ) → q ≢ 2 → q ≢ 5 → t.regs q ≡ s.regs q
  pub blank_words : IsBlank blank size bottom t.bytes
  pub data_same : (x : ℕ) → is_some (s.bytes x) ≡ true → is_some (t.bytes x) ≡ true
  pub bytes : AreBytes s.bytes → AreBytes t.bytes
  pub outside : (x : ℕ) → IsOutside bottom (bottom + room) x → t.bytes x ≡ s.bytes x

-- what is zeros stays so, and what is data, where a stretch is zeroed

zeroed_data : (low high : ℕ) (old new : ByteMap) → AreZeroed low high old new → (x : ℕ) → is_some (old x) ≡ true
    → is_some (new x) ≡ true
zeroed_data low high old new zeroed x there =
    ⊎_elim (λ (e : x < low). ap is_some (zeroed.outside x (inl e)) ∙ there)
    (λ (e : low ≤ x).
    ⊎_elim (λ (f : x < high). ap is_some (zeroed.inside x e f))
    (λ (f : high ≤ x). ap is_some (zeroed.outside x (inr f)) ∙ there) (cases_lt x high))
    (cases_lt x low)

zeroed_zero : (low high : ℕ) (old new : ByteMap) → AreZeroed low high old new → (x : ℕ) → old x ≡ Some 0
    → new x ≡ Some 0
zeroed_zero low high old new zeroed x zero =
    ⊎_elim (λ (e : x < low). zeroed.outside x (inl e) ∙ zero)
    (λ (e : low ≤ x).
    ⊎_elim (λ (f : x < high). zeroed.inside x e f) (λ (f : high ≤ x). zeroed.outside x (inr f) ∙ zero)
    (cases_lt x high))
    (cases_lt x low)

-- The frame, zeroed whole.

all_zero : (blank : Blank) (size bottom room : ℕ) (old new : ByteMap) → size ≤ room
    → AreZeroed bottom (bottom + room) old new → IsBlank blank size bottom new
all_zero None size bottom room old new holds zeroed = λ o inside.
    zeroed.inside (bottom + o) (omega arith) (omega (arith, inside, holds))
all_zero (Some []) size bottom room old new holds zeroed = tt
all_zero (Some (offset ∷ offsets)) size bottom room old new holds zeroed = (
  (λ b few inside. zeroed.inside (bottom + offset + b) (omega arith) (omega (arith, inside, holds))),
  all_zero (Some offsets) size bottom room old new holds zeroed,
)

-- Some words of it.

-- x2 is the base, and nothing else has changed but x5
record IsLowered (bottom : ℕ) (s t : Data) : Type 0 where
  stack : t.regs 2 ≡ bottom
  others : (q : ℕ) → q ≢ 2 → q ≢ 5 → t.regs q ≡ s.regs q
  bytes : t.bytes ≡ s.bytes

down_near : (x a bytes : ℕ) → x ≡ a + bytes → 0 < bytes → bytes < 2048 → x < 2 ^ 32
    → sum_of x (sign_extended 12 (4096 - bytes)) ≡ a
down_near x a bytes is some few below = grind (arith, nat_tests)

same_value : (v : ℕ) → v < 2 ^ 32 → sum_of v (sign_extended 12 0) ≡ v
same_value v below = grind (arith, nat_tests)

-- where its words are zeros, and what was zeros is so
record AreStored (size bottom room : ℕ) (offsets : List ℕ) (s t : Data) : Type 0 where
  regs : (q : ℕ) → t.regs q ≡ s.regs q
  zeros : AllByRecursion (IsZeroWord size bottom t.bytes) offsets
  still : (x : ℕ) → s.bytes x ≡ Some 0 → t.bytes x ≡ Some 0
  data_same : (x : ℕ) → is_some (s.bytes x) ≡ true → is_some (t.bytes x) ≡ true
  bytes : AreBytes s.bytes → AreBytes t.bytes
  outside : (x : ℕ) → IsOutside bottom (bottom + room) x → t.bytes x ≡ s.bytes x

module _ (z : Setting) (size bottom room : ℕ) (even : bottom % 16 ≡ 0) (whole : room % 16 ≡ 0)
    (below : bottom + room < 2 ^ 32) (may : MayZero z bottom (bottom + room)) where
  -- x2 is the base, and the frame is data
  record HasBase (s : Data) : Type 0 where
    stack : s.regs 2 ≡ bottom
    there : AreData bottom (bottom + room) s.bytes

  near_runs : 0 < room → room < 2048 → Runs z 1 (added 2 (4096 - room) ∷ []) (HasFrame bottom room) (IsLowered bottom)
  near_runs some near =
      let n = 4096 - room in
      let small : n < 4096 = omega arith in
      weaken_runs z
      (computes_runs z {P = HasFrame bottom room} (λ q. q == 2) (added 2 n ∷ [])
      (λ regs. with_register regs 2 (sum_of (regs 2) (sign_extended 12 n))) (simp (lt-ltb n 4096 small)) (λ regs. refl))
      (λ s has. has)
      (λ s t has made.
      let moved = down_near (s.regs 2) bottom room has.stack some near (omega (arith, has.stack)) in
      subst (λ (u : Data). IsLowered bottom s u) (sym made) (record {
        stack = written s.regs 2 _ (λ e. omega arith) ∙ moved;
        others = λ q h k. unwritten s.regs 2 _ q h;
        bytes = refl;
      }))

  far_runs : Runs z (length (constant_code 5 room ++ Register Sub 5 2 5 ∷ Immediate Addi 2 5 0 ∷ []))
      (constant_code 5 room ++ Register Sub 5 2 5 ∷ Immediate Addi 2 5 0 ∷ []) (HasFrame bottom room)
      (IsLowered bottom)
  far_runs =
      as_code z (append_assoc (constant_code 5 room) (Register Sub 5 2 5 ∷ []) (Immediate Addi 2 5 0 ∷ []))
      (in_steps z
      (sym (length-append (constant_code 5 room ++ Register Sub 5 2 5 ∷ []) (Immediate Addi 2 5 0 ∷ []))
      ∙ ap (λ (xs : List Instr). length xs)
      (append_assoc (constant_code 5 room) (Register Sub 5 2 5 ∷ []) (Immediate Addi 2 5 0 ∷ [])))
      (makes_then z {P = HasFrame bottom room} {P' = λ s. s.regs 5 ≡ bottom}
      {f = λ s. with_result 5 (difference_of (s.regs 2) room) s} {S = IsLowered bottom}
      (number_then z 5 room (omega arith) (λ e. omega arith) (omega arith) Sub 2 5 (omega arith) (omega arith))
      (computes_runs z (λ q. q == 2) (Immediate Addi 2 5 0 ∷ [])
      (λ regs. with_register regs 2 (sum_of (regs 5) (sign_extended 12 0))) refl (λ regs. refl))
      (λ s has. omega (arith, has.stack))
      (λ s u has made.
      let base : difference_of (s.regs 2) room ≡ bottom = omega (arith, has.stack) in
      subst (λ (v : Data). IsLowered bottom s v) (sym made) (record {
        stack = ap (λ v. sum_of v (sign_extended 12 0)) base ∙ same_value bottom (omega arith);
        others = λ q h k.
            let regs = (with_result 5 (difference_of (s.regs 2) room) s).regs in
            unwritten regs 2 (sum_of (regs 5) (sign_extended 12 0)) q h
            ∙ unwritten s.regs 5 (difference_of (s.regs 2) room) q k;
        bytes = refl;
      }))))

  lowered_runs : 0 < room → Runs z (length (lowered_code room)) (lowered_code room) (HasFrame bottom room)
      (IsLowered bottom)
  lowered_runs some = by (nat_lt room 2048) refl
    where
      by : (b : Bool) → nat_lt room 2048 ≡ b
          → Runs z (length (cond b (added 2 ((4096 - room) % 4096) ∷ [])
          (constant_code 5 room ++ Register Sub 5 2 5 ∷ Immediate Addi 2 5 0 ∷ [])))
          (cond b (added 2 ((4096 - room) % 4096) ∷ [])
          (constant_code 5 room ++ Register Sub 5 2 5 ∷ Immediate Addi 2 5 0 ∷ []))
          (HasFrame bottom room) (IsLowered bottom)
      by true near =
          let same : (4096 - room) % 4096 ≡ 4096 - room = omega (arith, some) in
          as_code z (ap (λ n. added 2 n ∷ []) (sym same)) (near_runs some (ltb-true room 2048 near))
      by false far = far_runs

  -- one word
  module _ (offset : ℕ) (fits : fits_frame room offset ≡ true) where
    parts : ((offset % 4 ≡ 0) × (offset < 2048)) × (offset + 4 ≤ room)
    parts =
        let outer = and_parts ((offset % 4 == 0) && nat_lt offset 2048) (nat_le (offset + 4) room) fits in
        let inner = and_parts (offset % 4 == 0) (nat_lt offset 2048) outer.0 in
        ((eqb-true (offset % 4) 0 inner.0, ltb-true offset 2048 inner.1), leb-true (offset + 4) room outer.1)

    blank_runs : Runs z 1 (blank_code offset) HasBase (AreStored size bottom room (offset ∷ []))
    blank_runs =
        let p = parts in
        let same : offset % 4096 ≡ offset = omega (arith, p.0.1) in
        as_code z (ap (λ o. stores_code 2 o (0 ∷ [])) (sym same))
        (weaken_runs z
        (stores_from z {P = HasBase} bottom offset (0 ∷ []) refl (omega (arith, p.0.0)) (omega (arith, p.0.0, p.0.1))
        (omega (arith, p.1)) (λ x from to. may bottom x (omega (arith, from)) (omega (arith, to, p.1)) (omega (arith, from)))
        (λ s has. (has.stack, λ x l h. has.there x (omega (arith, l)) (omega (arith, h, p.1)))))
        (λ s has. has)
        (λ s t has made.
        subst (λ (u : Data). AreStored size bottom room (offset ∷ []) s u) (sym made)
        (stored_zero s (with_number s.bytes 4 (bottom + offset) 0) (zero_number s.bytes 4 (bottom + offset)))))
      where
        stored_zero : (s : Data) (bytes : ByteMap) → AreZeroed (bottom + offset) (bottom + offset + 4) s.bytes bytes
            → AreStored size bottom room (offset ∷ []) s (record { regs = s.regs; bytes = bytes })
        stored_zero s bytes zeroed = record {
          regs = λ q. refl;
          zeros = ((λ b few inside. zeroed.inside (bottom + offset + b) (omega arith) (omega (arith, few))), tt);
          still = zeroed_zero (bottom + offset) (bottom + offset + 4) s.bytes bytes zeroed;
          data_same = zeroed_data (bottom + offset) (bottom + offset + 4) s.bytes bytes zeroed;
          bytes = zeroed_stays (bottom + offset) (bottom + offset + 4) s.bytes bytes zeroed;
          outside = λ x out. zeroed.outside x (out_of x out);
        }
          where
            out_of : (x : ℕ) → IsOutside bottom (bottom + room) x
                → IsOutside (bottom + offset) (bottom + offset + 4) x
            out_of x (inl low) = inl (omega (arith, low))
            out_of x (inr high) = inr (omega (arith, high, parts))

  -- all of them
  still_zeros : (one other : ByteMap) → ((x : ℕ) → one x ≡ Some 0 → other x ≡ Some 0) → (offsets : List ℕ)
      → AllByRecursion (IsZeroWord size bottom one) offsets → AllByRecursion (IsZeroWord size bottom other) offsets
  still_zeros one other still [] all = tt
  still_zeros one other still (offset ∷ offsets) all = (
    (λ b few inside. still (bottom + offset + b) (all.0 b few inside)),
    still_zeros one other still offsets all.1,
  )

  blanks_runs : (offsets : List ℕ) → all_fit room offsets ≡ true
      → Runs z (length (blanks_code offsets)) (blanks_code offsets) HasBase (AreStored size bottom room offsets)
  blanks_runs [] fit =
      no_code z (λ s has. record {
        regs = λ q. refl;
        zeros = tt;
        still = λ x is. is;
        data_same = λ x is. is;
        bytes = λ are. are;
        outside = λ x out. refl;
      })
  blanks_runs (offset ∷ offsets) fit =
      let both = and_parts (fits_frame room offset) (all_fit room offsets) fit in
      let more : 1 + length (blanks_code offsets) ≡ length (blanks_code (offset ∷ offsets)) = omega arith in
      in_steps z more (then_runs z (blank_runs offset both.0) (blanks_runs offsets both.1)
      (λ s t has one. record {
        stack = one.regs 2 ∙ has.stack;
        there = λ x l h. one.data_same x (has.there x l h);
      })
      (λ s t u has one more. record {
        regs = λ q. more.regs q ∙ one.regs q;
        zeros = (
          (λ b few inside. more.still (bottom + offset + b) (one.zeros.0 b few inside)),
          more.zeros,
        );
        still = λ x is. more.still x (one.still x is);
        data_same = λ x is. more.data_same x (one.data_same x is);
        bytes = λ are. more.bytes (one.bytes are);
        outside = λ x out. more.outside x out ∙ one.outside x out;
      }))

  some_runs : (offsets : List ℕ) → 0 < room → all_fit room offsets ≡ true
      → Runs z (length (lowered_code room ++ blanks_code offsets)) (lowered_code room ++ blanks_code offsets)
      (HasFrame bottom room) (IsReadied (Some offsets) size bottom room)
  some_runs offsets some fit =
      in_steps z (sym (length-append (lowered_code room) (blanks_code offsets)))
      (then_runs z (lowered_runs some) (blanks_runs offsets fit)
      (λ s t has low. record {
        stack = low.stack;
        there = λ x l h. ap (λ (b : ByteMap). is_some (b x)) low.bytes ∙ has.there x l h;
      })
      (λ s t u has low stored. record {
        stack = stored.regs 2 ∙ low.stack;
        others = λ q h k. stored.regs q ∙ low.others q h k;
        blank_words = stored.zeros;
        data_same = λ x is. stored.data_same x (ap (λ (b : ByteMap). is_some (b x)) low.bytes ∙ is);
        bytes = λ are. stored.bytes (subst AreBytes (sym low.bytes) are);
        outside = λ x out. stored.outside x out ∙ ap (λ (b : ByteMap). b x) low.bytes;
      }))

  no_room : (blank : Blank) → size ≤ room → room ≡ 0 → (s : Data) → HasFrame bottom room s
      → IsReadied blank size bottom room s s
  no_room blank holds none s has = record {
    stack = has.stack ∙ omega (arith, none);
    others = λ q h k. refl;
    blank_words = nothing_blank blank;
    data_same = λ x is. is;
    bytes = λ are. are;
    outside = λ x out. refl;
  }
    where
      nothing_blank : (blank : Blank) → IsBlank blank size bottom s.bytes
      nothing_blank None = λ o inside. absurd (omega (arith, inside, holds, none))
      nothing_blank (Some []) = tt
      nothing_blank (Some (offset ∷ offsets)) =
          ((λ b few inside. absurd (omega (arith, inside, holds, none))), nothing_blank (Some offsets))

  partly_runs : (offsets : List ℕ) → size ≤ room → all_fit room offsets ≡ true → (b : Bool) → (room == 0) ≡ b
      → Runs z (length (if b then [] else lowered_code room ++ blanks_code offsets))
      (if b then [] else lowered_code room ++ blanks_code offsets)
      (HasFrame bottom room) (IsReadied (Some offsets) size bottom room)
  partly_runs offsets holds fit true none =
      no_code z (λ s has. no_room (Some offsets) holds (eqb-true room 0 none) s has)
  partly_runs offsets holds fit false some =
      some_runs offsets (omega (arith, eqb-false room 0 some)) fit

  whole_runs : (blank : Blank) → size ≤ room
      → Runs z (frame_steps room) (zeroed_code room) (HasFrame bottom room) (IsReadied blank size bottom room)
  whole_runs blank holds =
      weaken_runs z (zeroed_runs z bottom room even whole below may)
      (λ s has. has)
      (λ s t has zeroed. record {
        stack = zeroed.stack;
        others = zeroed.others;
        blank_words = all_zero blank size bottom room s.bytes t.bytes holds zeroed.zeroed;
        data_same = zeroed_data bottom (bottom + room) s.bytes t.bytes zeroed.zeroed;
        bytes = zeroed_stays bottom (bottom + room) s.bytes t.bytes zeroed.zeroed;
        outside = zeroed.zeroed.outside;
      })

  frame_by : (pace : Pace) (offsets : List ℕ) → size ≤ room → (few : Bool) → are_few pace room offsets ≡ few
      → Runs z (if few then length (partly_code room offsets) else frame_steps room)
      (if few then partly_code room offsets else zeroed_code room) (HasFrame bottom room)
      (IsReadied (Some offsets) size bottom room)
  frame_by pace offsets holds true few =
      partly_runs offsets holds (and_parts (nat_le (length offsets) (most_blanks pace)) (all_fit room offsets) few).1 (room == 0) refl
  frame_by pace offsets holds false many = whole_runs (Some offsets) holds

  pub frame_readied : (pace : Pace) (blank : Blank) → size ≤ room
      → Runs z (steps_for pace room blank) (frame_code pace room blank) (HasFrame bottom room)
      (IsReadied blank size bottom room)
  frame_readied pace None holds = whole_runs None holds
  frame_readied pace (Some offsets) holds = frame_by pace offsets holds (are_few pace room offsets) refl
