-- The code that makes an array of zeros.
use Rattle.std.proofs.Common.{◌≡◌, ◌≢◌, ⊎_elim, ℕ, zero, suc, ◌+◌, ◌*◌, ◌%◌, ◌<◌, ◌≤◌, ◌⊎◌, inl, inr, true, List, []}
use Rattle.std.proofs.Common.{◌∷◌, ◌++◌, ◌^◌, length, replicate, Some, refl, sym, ap, ap₂, ◌∙◌, arith, append_assoc}
use Rattle.std.proofs.Common.{length-append}
use Rattle.codegen.proofs.Machine.{clear_code, statement_code, loop_code, with_numbers, variable_offset, constant_code}
use Rattle.codegen.proofs.Machine.{Instr, Addi, Add, Sub, Sw, ByteMap, number_at, with_number, sum_of, difference_of}
use Rattle.codegen.proofs.Machine.{with_register}
use Rattle.codegen.proofs.Language.{FlatVariable, array_as, path_of_iterations, Path, array, StraightState}
use Rattle.codegen.proofs.Language.{with_variable, after, IsFilled, Kind, Boolean, array_words, terms_nodes}
use Rattle.codegen.proofs.Logic.{cases_eq, cases_lt, length-replicate, with_number-suc, with_byte_same, with_byte_other}
use Rattle.codegen.proofs.Logic.{layout_of}
use Rattle.codegen.proofs.Logic.{lt-ltb, registers_after, is_free, computing_within, frame_runs, plain_append}
use Rattle.codegen.proofs.Logic.{after_append, constant_plain, constant_after, constant_length, kind_known, HeldAt}
use Rattle.codegen.proofs.Logic.{array_lies, held_kind}
use Rattle.codegen.proofs.Logic.{Held, held_regs, frame_there, bytes_of, place_of, place_within, ends_before_result}
use Rattle.codegen.proofs.Logic.{Setting, setting, none, none_low, Runs, Still, looping, never, quiet, weaken, gives}
use Rattle.codegen.proofs.Logic.{cheaper, along, as_code, Ready, number_same, HomesKept, homes_by, homes_computed}
use Rattle.codegen.proofs.Logic.{homes_then, is_scratch, scratch_low, unwritten}
use Rattle.rv_code.specs.declared.instructions.Instr.TheVariants as instr
use Rattle.rv_machine.specs.Machine as machine
use Rattle.std.proofs.lemmas.List.{get_or-replicate}
use Rattle.inline.proofs.FittingBodies.{held_zeros}
use Rattle.codegen.proofs.Numbers.{numbers_beside, zero_number}
use Rattle.codegen.proofs.Slots.{StateShown, ready_changed}

-- No iteration changes the state of straight code, or puts anything on the path.

abbrev as_before : ℕ → StraightState → StraightState
as_before i env = env

abbrev nothing_more : ℕ → StraightState → Path
nothing_more i env = []

path_none : (n i : ℕ) (env : StraightState) → path_of_iterations n i as_before nothing_more env ≡ []
path_none zero i env = refl
path_none (suc n) i env = path_none n (i + 1) env

-- each byte of a 0 is 0
zero_bytes : (bytes : ByteMap) (n a x : ℕ) → a ≤ x → x < a + n → with_number bytes n a 0 x ≡ Some 0
zero_bytes bytes zero a x low high = absurd (omega (arith, low, high))
zero_bytes bytes (suc n) a x low high =
    let rest = with_number bytes n (a + 1) 0 in
    let behind = λ (e : x ≢ a). zero_bytes bytes n (a + 1) x (omega (arith, low, e)) (omega (arith, high)) in
    ap (λ (m : ByteMap). m x) (with_number-suc bytes n a 0)
    ∙ ⊎_elim (with_byte_same rest a 0 x) (λ (e : x ≢ a). with_byte_other rest a 0 x e ∙ behind e) (cases_eq x a)

-- bytes with so many words from an address on that are 0
abbrev zeroed : ByteMap → ℕ → ℕ → ByteMap
zeroed bytes a n = with_numbers bytes 4 a (replicate n 0)

zeroed_there : (bytes : ByteMap) (a n x : ℕ) → a ≤ x → x < a + 4 * n → zeroed bytes a n x ≡ Some 0
zeroed_there bytes a zero x low high = absurd (omega (arith, low, high))
zeroed_there bytes a (suc n) x low high =
    let next = with_number bytes 4 a 0 in
    ⊎_elim
    (λ (here : x < a + 4). numbers_beside next 4 (a + 4) (replicate n 0) x (inl here)
    ∙ zero_bytes bytes 4 a x low here)
    (λ (behind : a + 4 ≤ x). zeroed_there next (a + 4) n x behind (omega (arith, high))) (cases_lt x (a + 4))

zeroed_beside : (bytes : ByteMap) (a n x : ℕ) → (x < a) ⊎ (a + 4 * n ≤ x) → zeroed bytes a n x ≡ bytes x
zeroed_beside bytes a n x (inl below) = numbers_beside bytes 4 a (replicate n 0) x (inl below)
zeroed_beside bytes a n x (inr above) = let long : length {A = ℕ} (replicate n 0) ≡ n = length-replicate n 0 in
    numbers_beside bytes 4 a (replicate n 0) x (inr (omega (arith, above, long)))

-- and the word behind them
one_more : (bytes : ByteMap) (a n : ℕ) → with_number (zeroed bytes a n) 4 (a + 4 * n) 0 ≡ zeroed bytes a (suc n)
one_more bytes a zero = let here : a + 4 * 0 ≡ a = omega arith in ap (λ b. with_number bytes 4 b 0) here
one_more bytes a (suc n) =
    let there : a + 4 * suc n ≡ a + 4 + 4 * n = omega arith in
    ap (λ b. with_number (zeroed bytes a (suc n)) 4 b 0) there ∙ one_more (with_number bytes 4 a 0) (a + 4) n

module _ (z : Setting) (offset words : ℕ) (aligned : offset % 4 ≡ 0) (inside : offset + 4 * words ≤ z.size) where
  abbrev start : ℕ
  start = z.frame + offset

  -- the address of the next word, and the one behind the array
  record Bounded (i : ℕ) (env : StraightState) (s : machine.State) : Type 0 where
    held : HeldAt z s
    six : s.regs 6 ≡ z.frame + (offset + 4 * i)
    seven : s.regs 7 ≡ z.frame + (offset + 4 * words)

  -- a number and a register are added into a register
  summed : (d n base : ℕ) → is_scratch d ≡ true → 4 < d → d < 32 → base < 32 → n < 2 ^ 32
      → Runs z 3 none (constant_code d n ++ instr.Register Add d d base ∷ []) (Held z)
      (λ env s t. HeldAt z t
      × (t.regs ≡ registers_after (instr.Register Add d d base ∷ []) (with_register s.regs d n))
      × (t.bytes ≡ s.bytes) × HomesKept z s t)
  summed d n base works low small small' fits =
      let sum = instr.Register Add d d base ∷ [] in
      let plain = plain_append is_scratch (constant_code d n) sum (constant_plain is_scratch d n works small)
      (simp (works, lt-ltb d 32 small, lt-ltb base 32 small')) in
      cheaper (simp length-append (omega (arith, constant_length d n)))
      (gives
      (λ env s t fine held done. (
        done.held,
        done.registers ∙ (after_append (constant_code d n) sum s.regs
            ∙ ap (registers_after sum) (constant_after d n (λ e. omega (arith, low, e)) fits s.regs)),
        done.same,
        homes_computed z (constant_code d n ++ sum) s t plain done.registers,
      ))
      (computing_within z is_scratch (constant_code d n ++ sum) plain scratch_low))

  abbrev begin_code : List Instr
  begin_code = constant_code 6 offset ++ instr.Register Add 6 6 2 ∷ [] ++ constant_code 7 (4 * words)
      ++ instr.Register Add 7 7 6 ∷ []

  begin_runs : Runs z 6 none begin_code (Held z) (λ env s t. Bounded 0 env t × (t.bytes ≡ s.bytes) × HomesKept z s t)
  begin_runs =
      as_code (simp append_assoc)
      (gives
      (λ env s t fine held done.
      let m = done.middle in
      let one = done.first in
      let two = done.second in
      let six : m.regs 6 ≡ z.frame + offset =
      ap (λ (regs : ℕ → ℕ). regs 6) one.1
      ∙ (ap (λ base. sum_of offset base) held.base ∙ omega (arith, z.ends, inside)) in (
        record {
          held = two.0;
          six = ap (λ (regs : ℕ → ℕ). regs 6) two.1 ∙ (six ∙ omega arith);
          seven = ap (λ (regs : ℕ → ℕ). regs 7) two.1
              ∙ (ap (λ a. sum_of (4 * words) a) six ∙ omega (arith, z.ends, inside));
        },
        two.2 ∙ one.2,
        homes_then z s m t one.3 two.3,
      ))
      (quiet
      (summed 6 offset 2 refl (omega arith) (omega arith) (omega arith) (omega (arith, z.ends, inside)))
      (summed 7 (4 * words) 6 refl (omega arith) (omega arith) (omega arith) (omega (arith, z.ends, inside)))
      (λ env s t held done. done.0)))

  -- The loop.

  abbrev test : List Instr
  test = instr.Register Sub 5 7 6 ∷ []

  abbrev iteration : List Instr
  iteration = instr.Store Sw 0 6 0 ∷ instr.Immediate Addi 6 6 4 ∷ []

  -- so many words are left
  abbrev Iterating : ℕ → ℕ → StraightState → machine.State → Type 0
  Iterating left i env s = Bounded i env s × (i + left ≡ words)

  abbrev Tested : ℕ → ℕ → StraightState → machine.State → machine.State → Type 0
  Tested left i env s t = Bounded i env t × (t.regs 5 ≡ 4 * left) × (t.bytes ≡ s.bytes) × HomesKept z s t

  abbrev Iterated : ℕ → StraightState → machine.State → machine.State → Type 0
  Iterated i env u v = Bounded (i + 1) env v × (v.bytes ≡ with_number u.bytes 4 (z.frame + (offset + 4 * i)) 0)
      × HomesKept z u v

  test_runs : (left i : ℕ) → Runs z 1 none test (Iterating left i) (Tested left i)
  test_runs left i =
      weaken {P' = Iterating left i}
      (λ env s fine given. given.0.held)
      (λ env s t fine given done.
      let count = given.1 in (
        record {
          held = done.held;
          six = ap (λ (regs : ℕ → ℕ). regs 6) done.registers ∙ given.0.six;
          seven = ap (λ (regs : ℕ → ℕ). regs 7) done.registers ∙ given.0.seven;
        },
        ap (λ (regs : ℕ → ℕ). regs 5) done.registers
            ∙ (ap₂ difference_of given.0.seven given.0.six ∙ omega (arith, z.ends, inside, count)),
        done.same,
        homes_computed z test s t refl done.registers,
      ))
      (computing_within z is_free test refl none_low)

  iteration_below : (left i : ℕ) → i < words → Runs z 2 none iteration (Iterating (suc left) i) (Iterated i)
  iteration_below left i below =
      gives
      (λ env s t fine given done. (
        record {
          held = done.0;
          six = ap (λ (regs : ℕ → ℕ). regs 6) done.1.regs
              ∙ (ap (λ a. sum_of a 4) given.0.six ∙ omega (arith, z.ends, inside, below));
          seven = ap (λ (regs : ℕ → ℕ). regs 7) done.1.regs ∙ given.0.seven;
        },
        done.1.bytes,
        λ r home. let some = z.allocated.some in ap (λ (regs : ℕ → ℕ). regs r) done.1.regs
            ∙ unwritten s.regs 6 _ r (λ e. omega (arith, some, home.0, e)),
      ))
      (frame_runs z {P = Iterating (suc left) i} is_free iteration ((z.frame + (offset + 4 * i)) ∷ []) refl none_low
      (record { even = omega (arith, z.even, aligned); allowed = (omega arith, omega (arith, inside, below)) }, tt)
      (λ env s given. (
        given.0.held,
        (
          record {
            address = ap (λ a. sum_of a 0) given.0.six ∙ omega (arith, z.ends, inside, below);
            data_there = frame_there z s given.0.held 4 (offset + 4 * i) (omega (arith, inside, below));
          },
          tt,
        ),
      )))

  iteration_runs : (left i : ℕ) → Runs z 2 none iteration (Iterating (suc left) i) (Iterated i)
  iteration_runs left i =
      ⊎_elim (λ (below : i < words). iteration_below left i below)
      (λ (beyond : words ≤ i). never (λ env s given. omega (arith, given.1, beyond))) (cases_lt i words)

  -- the words before the next are 0
  abbrev Inv : ℕ → ℕ → StraightState → machine.State → machine.State → Type 0
  Inv left i env o s = Iterating left i env s × (s.bytes ≡ zeroed o.bytes start i) × HomesKept z o s

  abbrev Over : StraightState → machine.State → machine.State → Type 0
  Over env o u = HeldAt z u × (u.bytes ≡ zeroed o.bytes start words) × HomesKept z o u

  bounded_still : (i : ℕ) (env : StraightState) (s t : machine.State) → Bounded i env s → Still s t → Bounded i env t
  bounded_still i env s t given still = record {
    held = held_regs z s t (ap (λ (regs : ℕ → ℕ). regs 2) still.regs) still.bytes given.held;
    six = ap (λ (regs : ℕ → ℕ). regs 6) still.regs ∙ given.six;
    seven = ap (λ (regs : ℕ → ℕ). regs 7) still.regs ∙ given.seven;
  }

  next_zeroed : (i : ℕ) (bytes before : ByteMap) → before ≡ zeroed bytes start i
      → with_number before 4 (z.frame + (offset + 4 * i)) 0 ≡ zeroed bytes start (i + 1)
  next_zeroed i bytes before is =
      let at : z.frame + (offset + 4 * i) ≡ start + 4 * i = omega arith in
      let count : suc i ≡ i + 1 = omega arith in
      ap₂ (λ (b : ByteMap) a. with_number b 4 a 0) is at
      ∙ (one_more bytes start i ∙ ap (λ n. zeroed bytes start n) count)

  zeros_runs : Runs z ((words + 1) * 5) none (loop_code test iteration) (Bounded 0) (λ env s t. Over env s t)
  zeros_runs =
      cheaper (omega arith)
      (along (λ env. sym (path_none words 0 env))
      (weaken
      (λ env s fine given. ((given, omega arith), refl, λ r home. refl))
      (λ env s t fine given over. over)
      (looping {z = setting z} 5 (omega arith) (λ e. omega arith) {A = Iterating} {B = Tested} {C =
      λ left i. Iterating (suc left) i} {D = λ left i. Iterated i}
      nothing_more as_before Inv Over (omega arith)
      (λ left i env o s inv. inv.0)
      (λ left i env o s t inv tested e. let f = tested.1 in omega (arith, e, f))
      (λ i env o s t inv tested. tested.1)
      (λ left i env o s t u inv tested still. (bounded_still i env t u tested.0 still, inv.0.1))
      (λ left i env o s t u v w inv tested still done back. (
        (bounded_still (i + 1) env v w done.0 back, let h = inv.0.1 in omega (arith, h)),
        back.bytes ∙ (done.1 ∙ next_zeroed i o.bytes u.bytes (still.bytes ∙ (tested.2 ∙ inv.1))),
        homes_then z o s w inv.2
            (homes_then z s t w tested.3
            (homes_then z t u w (homes_by z t u still.regs)
            (homes_then z u v w done.2 (homes_by z v w back.regs)))),
      ))
      (λ i env o s t u inv tested still.
      let count : i ≡ words = let h = inv.0.1 in omega (arith, h) in (
        held_regs z t u (ap (λ (regs : ℕ → ℕ). regs 2) still.regs) still.bytes tested.0.held,
        still.bytes ∙ (tested.2 ∙ (inv.1 ∙ ap (λ n. zeroed o.bytes start n) count)),
        homes_then z o s u inv.2 (homes_then z s t u tested.3 (homes_by z t u still.regs)),
      ))
      test_runs iteration_runs words 0)))

  pub clear_bytes : Runs z (6 + (words + 1) * 5) none (clear_code offset words) (Held z) (λ env s t. HeldAt z t
      × (t.bytes ≡ zeroed s.bytes start words) × HomesKept z s t)
  clear_bytes =
      gives
      (λ env s t fine held done. (
        done.second.0,
        done.second.1
            ∙ ap (λ (b : ByteMap). zeroed b start words) done.first.1,
        homes_then z s done.middle t done.first.2 done.second.2,
      ))
      (quiet begin_runs zeros_runs (λ env s t held begun. begun.0))

-- no more words than elements
words_few : (kind : Kind) (size : ℕ) → array_words kind size ≤ size
words_few Boolean size = omega arith
words_few kind size = omega arith

module _ (z : Setting) (depth x size : ℕ) (typed : IsFilled z.code.profile z.declared x size [])
    (within : depth ≤ z.depths) where
  abbrev d : FlatVariable
  d = array_as typed.word typed.mutable size

  abbrev place : ℕ
  place = variable_offset z.laid x

  abbrev count : ℕ
  count = array_words typed.word.kind size

  -- all zeros are shown, and all else as it was
  ready_cleared : (env : StraightState) (s t : machine.State) → Ready z env s → HeldAt z t
      → t.bytes ≡ zeroed s.bytes (z.frame + place) count → HomesKept z s t
      → Ready z (with_variable env x (replicate size 0)) t
  ready_cleared env s t ready held cleared homes =
      ready_changed z x d typed.known (z.allocated.words x d size typed.known refl) (replicate size 0)
      (held_kind (held_zeros d)) env s t ready held
      (λ j less.
      let w = place_within z.laid x d j less in
      zero_number t.bytes z.frame (bytes_of d) (place_of z.laid x d j)
      (λ b low high. ap (λ (m : ByteMap). m (z.frame + b)) cleared
      ∙ zeroed_there s.bytes (z.frame + place) count (z.frame + b) (omega (arith, low))
      (omega (arith, high, w)))
      ∙ ap Some (sym (get_or-replicate size j 0 0 less)))
      outside homes
    where
      outside : (n o : ℕ) → (o + n ≤ place) ⊎ (place + 4 * count ≤ o)
          → number_at t.bytes n (z.frame + o) ≡ number_at s.bytes n (z.frame + o)
      outside n o side =
          number_same z s t n o (λ b low high. ap (λ (m : ByteMap). m (z.frame + b)) cleared
          ∙ zeroed_beside s.bytes (z.frame + place) count (z.frame + b)
          (⊎_elim (λ (h : o + n ≤ place). inl (omega (arith, high, h)))
          (λ (h : place + 4 * count ≤ o). inr (omega (arith, low, h))) side))

  pub clear_runs : Runs z (32 * (1 + size + terms_nodes [])) none
      (statement_code (layout_of z) depth (array x size [])) (Ready z)
      (StateShown z depth (λ env. after env (array x size [])))
  clear_runs =
      let lies = array_lies z x size typed.word typed.mutable typed.known in
      let first = ends_before_result z.laid x d lies in
      as_code (ap (λ k. clear_code place (array_words k size)) (kind_known z.laid x d lies))
      (cheaper (omega (arith, words_few typed.word.kind size))
      (weaken
      (λ env s fine ready. ready.held)
      (λ env s t fine ready done. record {
        ready = ready_cleared env s t ready done.0 done.1 done.2;
        hidden = λ o low high. ap (λ (m : ByteMap). m (z.frame + o)) done.1
            ∙ zeroed_beside s.bytes (z.frame + place) count (z.frame + o) (inr (omega (arith, first, low)));
      })
      (clear_bytes z place count (omega arith) (omega (arith, first, z.room)))))
