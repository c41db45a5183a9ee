-- What is set under a control value. Code makes of the old number, of what is set and of the mask the new one: what is
-- set where the mask is all ones, and the old one where it is 0. It is written in any case.
use Rattle.std.proofs.Common.{◌≡◌, ℕ, ◌+◌, ◌*◌, ◌^◌, ◌<◌, ◌≤◌, ◌==◌, ◌≢◌, nat_lt, eq-eqb, ne_eqb, Bool, true, false}
use Rattle.std.proofs.Common.{if◌then◌else◌, List, [], ◌∷◌, ◌++◌, Option, None, Some, length, slice_index, refl, sym}
use Rattle.std.proofs.Common.{ap, ap₂, ◌∙◌, subst, arith, append-nil, append_assoc, inl, bit_and, bit_xor, ◌⊎◌, slice_get}
use Rattle.std.proofs.Common.{◌||◌}
use Rattle.codegen.proofs.Logic.{lt-ltb, steps_of, mask_of, merged, merge, take, place_of, Setting, base_of, Steps}
use Rattle.codegen.proofs.Logic.{layout_of}
use Rattle.codegen.proofs.Logic.{Runs, gives, cheaper, as_code, idle, Ready, Wrote, homes_then, kept_by}
use Rattle.codegen.proofs.Logic.{registers_after, quiet, took, along, known, move_runs, weaken, HeldAt, none}
use Rattle.codegen.proofs.Logic.{only_computes, computing_within, bytes_of, Fetched, free_from, place_before, Before}
use Rattle.codegen.proofs.Language.{TermTree, word_as, value_in, term_nodes, types_of, set, StraightState}
use Rattle.codegen.proofs.Language.{with_variable, with_element, after, IsSet, WordType, bits_of, FlatVariable}
use Rattle.codegen.proofs.Language.{TermHasType, nodes_work, numbers_in}
use Rattle.codegen.proofs.Machine.{at_home, control_location, fetch_code, home_of, InSlot, Instr, is_unread, merge_code}
use Rattle.codegen.proofs.Machine.{InRegister, mirror_by, mirror_code, mirror_of, variable_location, set_under_code, read_code, read_register, variable_offset}
use Rattle.codegen.proofs.Machine.{slots_to, load_code, store_code, height_of, Sw, number_at, statement_code, Location}
use Rattle.rv_machine.specs.Machine as machine
use Rattle.codegen.proofs.Slots.{StateShown, alone, ready_same, suits_fits, read_runs, read_source, source_apart}
use Rattle.codegen.proofs.Slots.{ready_valued, ready_with, word_before, hidden_then, hidden_by, hidden_kept}
use Rattle.codegen.proofs.Slots.{hidden_wrote, ready_put, ready_alone, ready_chosen, wrote_as, Hidden}
use Rattle.codegen.proofs.Slots.{cut_number, IsSourceRegister, offered_put}
use Rattle.codegen.proofs.Mirroring.{mirror_runs, ready_mirrored}
use Rattle.codegen.proofs.Masks.{fetched_homes, home_apart, mask_apart, mask_register, mask_free, mask_runs}
use Rattle.std.proofs.lemmas.Nat.{and_mask}
use Rattle.std.specs.Int.Bits.{and_zero_r}
use Rattle.codegen.specs.private.Erased.{erase_code, erase_under_code}
use Rattle.codegen.specs.private.Words.{gives_zero}
use Rattle.expression_code.proofs.program_logic_lemmas.Computing.{register_left}
use Rattle.expression_code.proofs.program_logic_lemmas.Pieces.{by_test}
use Rattle.expression_code.proofs.Moves.{Computed}
use Rattle.expression_code.proofs.NumberCode.{zero_known}
use Rattle.expression_code.proofs.Values.{kind_fits}
use Rattle.expression_code.proofs.WorkRegisters.{IsFree}
use Rattle.std.proofs.lemmas.Bool.{or_from}
use Rattle.codegen.proofs.Logic.{AreOfKinds}

-- either of two numbers fits where both do
chosen_fits : (b : Bool) (v old n : ℕ) → v < n → old < n → (if b then v else old) < n
chosen_fits true v old n h k = h
chosen_fits false v old n h k = k

-- code behind one of two lists stands behind each
choice_append : (b : Bool) (xs ys zs : List Instr)
    → (if b then xs else ys) ++ zs ≡ (if b then xs ++ zs else ys ++ zs)
choice_append true xs ys zs = refl
choice_append false xs ys zs = refl

module _ (z : Setting) where
  -- where a word is set or kept
  under_alone : (b : Bool) (x v : ℕ) (env : StraightState) (t : machine.State) → length (env.variables x) ≡ 1
      → Ready z (if b then with_element env x 0 v else env) t
      → Ready z (if b then with_variable env x (v ∷ []) else env) t
  under_alone true x v env t one ready = ready_alone z env x v t one ready
  under_alone false x v env t one ready = ready

  -- the same where it is set to one of two numbers
  under_word : (b : Bool) (x v : ℕ) (env : StraightState) (t : machine.State) → length (env.variables x) ≡ 1
      → Ready z (with_variable env x ((if b then v else slice_index (env.variables x) 0) ∷ [])) t
      → Ready z (if b then with_variable env x (v ∷ []) else env) t
  under_word b x v env t one ready =
      under_alone b x v env t one
      (ready_chosen z b x 0 v env t
      (ready_same z (with_variable env x ((if b then v else slice_index (env.variables x) 0) ∷ []))
      (with_element env x 0 (if b then v else slice_index (env.variables x) 0)) t
      (λ y. ap (λ (l : List ℕ). if y == x then l else env.variables y)
      (sym (alone (env.variables x) (if b then v else slice_index (env.variables x) 0) one)))
      (λ c. refl) ready))

-- Such code: `New` says what registers have for what is set, and it writes no registers but those that work.
pub record Chooses (works : ℕ → Bool) (New : (ℕ → ℕ) → ℕ → Type 0) (d old k : ℕ) (is : List Instr) : Type 0 where
  pub plain : only_computes works is ≡ true
  pub makes : (b : Bool) (v w : ℕ) (regs : ℕ → ℕ) → v < 2 ^ 32 → w < 2 ^ 32 → New regs v → regs old ≡ w
      → regs k ≡ mask_of b → registers_after is regs d ≡ (if b then v else w)

module _ (works : ℕ → Bool) (d t old k : ℕ) (wd : works d ≡ true) (wt : works t ≡ true) (d_free : IsFree d)
    (t_free : IsFree t) (old_free : IsFree old) (k_free : IsFree k) (apart : old ≢ t) (beside : k ≢ t) where
  not_zero : {r : ℕ} → IsFree r → (r == 0) ≡ false
  not_zero {r = r} free = ne_eqb r 0 free.nonzero

  same : (r : ℕ) → (r == r) ≡ true
  same r = eq-eqb r r refl

  few : (r : ℕ) → IsFree r → nat_lt r 32 ≡ true
  few r free = lt-ltb r 32 free.small

  -- what is set is in a register
  pub merges : (r : ℕ) → IsFree r → Chooses works (λ regs v. regs r ≡ v) d old k (merge_code d t r old k)
  merges r free = record {
    plain = simp (wd, wt, few d d_free, few t t_free, few old old_free, few k k_free, few r free);
    makes = λ b v w regs fits old_fits new there mask.
        let mixed : registers_after (merge_code d t r old k) regs d ≡ merged (regs k) (regs old) (regs r) =
        simp (
          not_zero d_free,
          not_zero t_free,
          not_zero old_free,
          not_zero k_free,
          not_zero free,
          ne_eqb old t apart,
          ne_eqb k t beside,
          same,
        ) in
        mixed ∙ (ap₂ (λ p q. merged p q (regs r)) mask there
        ∙ (ap (λ q. merged (mask_of b) w q) new ∙ merge b w v old_fits fits));
  }

  -- it is 0
  erased : (b : Bool) (w v : ℕ) → v ≡ 0 → w < 2 ^ 32 → bit_and w (bit_xor (mask_of b) 4294967295) ≡ (if b then v else w)
  erased true w v zero fits = and_zero_r w ∙ sym zero
  erased false w v zero fits = omega (arith, and_mask w 32)

  pub erases : Chooses works (λ regs v. v ≡ 0) d old k (erase_code d t old k)
  erases = record {
    plain = simp (wd, wt, few d d_free, few t t_free, few old old_free, few k k_free);
    makes = λ b v w regs fits old_fits zero there mask.
        let mixed : registers_after (erase_code d t old k) regs d ≡ bit_and (regs old) (bit_xor (regs k) 4294967295) =
        simp (not_zero d_free, not_zero t_free, not_zero old_free, not_zero k_free, ne_eqb old t apart, same) in
        mixed ∙ (ap₂ (λ p q. bit_and p (bit_xor q 4294967295)) there mask ∙ erased b w v zero old_fits);
  }

module _ (z : Setting) (depth : ℕ) (within : depth ≤ z.depths) (c : ℕ) (among : c < z.controls)
    (read : is_unread z.allocation c ≡ false) where
  -- what is done before: nothing that is shown has changed, and registers have what is set
  abbrev pub Begun : ((ℕ → ℕ) → ℕ → Type 0) → (StraightState → ℕ) → StraightState → machine.State → machine.State
      → Type 0
  Begun New new env s t = Ready z env t × Hidden z depth s t × New t.regs (new env)

  -- the value of an expression, read where it is
  pub read_begun : {e : TermTree} {word : WordType} → TermHasType (types_of z.code.profile z.declared) e word
      → base_of z + 4 * slots_to z.allocation.count (height_of e) ≤ z.size
      → Runs z (16 * term_nodes e) (steps_of e) (read_code (layout_of z) 5 0 e) (Ready z)
      (Begun (λ regs v. regs (read_register z.allocation 5 e) ≡ v) (λ env. value_in env.variables e))
  read_begun {e = e} has room =
      gives
      (λ env s t fine ready done. (
        ready_valued z e env s t ready done,
        hidden_kept z depth s t within done.kept,
        done.there,
      ))
      (read_runs z has room)

  -- A number of a variable without a home.
  module _ (x i : ℕ) (d : FlatVariable) (known : slice_get z.declared x ≡ Some d)
      (away : home_of z.allocation.homes x ≡ None) (below : i < numbers_in d.elements) (new : StraightState → ℕ)
      (fits : (env : StraightState) → AreOfKinds (types_of z.code.profile z.declared) env.variables
      → new env < 2 ^ bits_of d.word.kind) where
    abbrev old : StraightState → ℕ
    old env = slice_index (env.variables x) i

    -- Its old one comes into register o, the mask into another, and what is made of them into w, from which it is
    -- stored. Meanwhile `Aims` says what registers have for its address.
    module _ {New : (ℕ → ℕ) → ℕ → Type 0} {Aims : (ℕ → ℕ) → Type 0} (o spare w : ℕ) (o_low : o < 8) (w_low : w < 8)
        (spare_free : IsFree spare) (w_free : IsFree w) (apart : o ≢ spare) (no_home : (spare < 8) ⊎ (27 < spare))
        {m n : ℕ} {loads combine stores : List Instr}
        (new_stays : (regs after : ℕ → ℕ) (v : ℕ) → ((q : ℕ) → q ≢ o → q ≢ spare → after q ≡ regs q) → New regs v
        → New after v)
        (aims_stay : (regs after : ℕ → ℕ) → ((q : ℕ) → q ≢ o → q ≢ spare → q ≢ w → after q ≡ regs q) → Aims regs
        → Aims after)
        (loaded : Runs z m none loads (λ env s. Ready z env s × Aims s.regs) (λ env s t. Fetched z o o (old env) s t))
        (chooses : Chooses (λ q. q == w) New w o (mask_register z c spare) combine)
        (stored : Runs z n none stores (λ env s. HeldAt z s × Aims s.regs)
        (λ env s t. Wrote z (bytes_of d) (place_of z.laid x d i) (s.regs w) s t)) where
      others : (env : StraightState) (s t : machine.State) → Computed z combine env s t → (q : ℕ) → q ≢ w
          → t.regs q ≡ s.regs q
      others env s t done q other =
          ap (λ (regs : ℕ → ℕ). regs q) done.registers
          ∙ register_left (λ p. p == w) combine s.regs q chooses.plain (ne_eqb q w other)

      pub number_under : {l : ℕ} {steps : Steps} {front : List Instr} {P : Before}
          → Runs z l steps front P (λ env s t. Begun New new env s t × Aims t.regs)
          → Runs z (l + m + 3 + length combine + n) steps
          ((((front ++ loads) ++ fetch_code (control_location (layout_of z) c) spare) ++ combine) ++ stores) P
          (StateShown z depth (λ env. if env.controls c then with_element env x i (new env) else env))
      number_under begins =
          gives
          (λ env s t fine given done.
          let m1 = done.first.first.first.middle in
          let m2 = done.first.first.middle in
          let m3 = done.first.middle in
          let m4 = done.middle in
          let one = done.first.first.first.first.0 in
          let load = done.first.first.first.second in
          let mask = done.first.first.second in
          let two = done.first.second in
          let b = env.controls c in
          let v = new env in
          let kind = d.word.kind in
          let place = place_of z.laid x d i in
          let before = place_before z x d i (z.lies x d known away) below in
          let held = one.0.fits x d known in
          let new_fits = fits env one.0.fits in
          let old_fits = held.within i 0 (omega (arith, held.count (omega (arith, below)), below)) in
          let chosen = chosen_fits b v (old env) (2 ^ bits_of kind) new_fits old_fits in
          let result = if b then v else old env in
          let made : m4.regs w ≡ result =
          ap (λ (regs : ℕ → ℕ). regs w) two.registers
          ∙ chooses.makes b v (old env) m3.regs (kind_fits kind v new_fits) (kind_fits kind (old env) old_fits)
          (new_stays m1.regs m3.regs v (λ q first second. mask.others q second ∙ load.others q first) one.2)
          (mask.others o apart ∙ load.there) mask.there in
          let same : m4.bytes ≡ m1.bytes = two.same ∙ (mask.same ∙ load.same) in
          let homes = homes_then z m1 m3 m4
          (homes_then z m1 m2 m3 (fetched_homes z o o (old env) m1 m2 (inl o_low) load)
          (fetched_homes z (mask_register z c spare) spare (mask_of b) m2 m3 no_home mask))
          (λ r home. others env m3 m4 two r (home_apart z r w home w_low)) in
          let wrote = wrote_as z (bytes_of d) place (m4.regs w) result m4 t made done.second in
          record {
            ready = ready_chosen z b x i v env t
                (ready_put z x i result result d known away below chosen env m4 t
                (ready_with z env m1 m4 one.0 two.held same homes) wrote (cut_number kind d.elements result chosen));
            hidden = hidden_then z depth s m1 t one.1 (hidden_then z depth m1 m4 t (hidden_by z depth m1 m4 same)
                (hidden_wrote z depth (bytes_of d) place result m4 t (omega (arith, before)) wrote));
          })
          (quiet
          (quiet
          (quiet
          (quiet begins loaded (λ env s t given done. (done.0.0, done.1)))
          (mask_runs z c spare among read spare_free.low spare_free.small)
          (λ env s t given done. ready_with z env done.middle t done.first.0.0 done.second.held done.second.same
          (fetched_homes z o o (old env) done.middle t (inl o_low) done.second)))
          (computing_within z (λ q. q == w) combine chooses.plain
          (λ r low. ne_eqb r w (λ e. let free = w_free.low in omega (arith, low, free, e))))
          (λ env s t given done. done.second.held))
          stored
          (λ env s t given done. (
            done.second.held,
            aims_stay done.first.first.middle.regs t.regs
                (λ q first second third. others env done.middle t done.second q third
                ∙ (done.first.second.others q second ∙ done.first.first.second.others q first))
                done.first.first.first.1,
          )))

  -- A word.
  module _ (x : ℕ) (value : TermTree) (typed : IsSet z.code.profile z.declared x value) where
    abbrev d : FlatVariable
    d = word_as typed.word typed.mutable

    abbrev new : StraightState → ℕ
    new env = value_in env.variables value

    abbrev control : Location
    control = control_location (layout_of z) c

    abbrev Sets : ℕ → Steps → List Instr → Type 0
    Sets n steps code = Runs z n steps code (Ready z) (StateShown z depth (λ env. after env (set (Some c) x value)))

    fits : (env : StraightState) → AreOfKinds (types_of z.code.profile z.declared) env.variables
        → new env < 2 ^ bits_of typed.word.kind
    fits env all = suits_fits z.code.profile z.declared typed.word value env.variables all typed.suits

    module _ {New : (ℕ → ℕ) → ℕ → Type 0} {n : ℕ} {steps : Steps} {front combine : List Instr}
        (new_stays : (regs after : ℕ → ℕ) (v : ℕ) → ((q : ℕ) → q ≢ 6 → q ≢ 7 → after q ≡ regs q) → New regs v
        → New after v)
        (begins : Runs z n steps front (Ready z) (Begun New new)) where
      -- in its slot
      pub slot_under : home_of z.allocation.homes x ≡ None
          → Chooses (λ q. q == 5) New 5 6 (mask_register z c 7) combine
          → Sets (n + 3 + 3 + length combine + 3) steps
          (front ++ (((load_code 6 (variable_offset z.laid x) ++ fetch_code control 7) ++ combine)
          ++ store_code 5 (variable_offset z.laid x)))
      slot_under away chooses =
          let o = variable_offset z.laid x in
          let at : o ≡ place_of z.laid x d 0 = omega arith in
          let before = word_before z x typed.word typed.mutable typed.known away in
          let inside : o + 4 ≤ z.size = omega (arith, before, z.room) in
          as_code (simp append_assoc)
          (gives
          (λ env s t fine ready done. record {
            ready = under_alone z (env.controls c) x (new env) env t
                ((ready.fits x d typed.known).count (omega arith)) done.ready;
            hidden = done.hidden;
          })
          (number_under x 0 d typed.known away (omega arith) new fits {New = New} {Aims = λ regs. Unit {0}} 6 7 5
          (omega arith) (omega arith) (free_from 7 (omega arith) (omega arith))
          (free_from 5 (omega arith) (omega arith)) (λ e. omega (arith, e)) (inl (omega arith)) new_stays
          (λ regs after same aims. aims)
          (weaken
          (λ env s fine given. given.0.held)
          (λ env s t fine given moved. took z 6 o (slice_index (env.variables x) 0) env s t (λ e. omega (arith, e))
          (ap (λ a. number_at s.bytes 4 (z.frame + a)) at
          ∙ given.0.variables_there x d 0 typed.known away (omega arith)) moved)
          (move_runs z (take 6 o) refl (omega arith, inside)))
          chooses
          (weaken
          (λ env s fine given. given.0)
          (λ env s t fine given wrote. subst (λ a. Wrote z 4 a (s.regs 5) s t) at wrote)
          (offered_put z Sw 5 o (omega arith) (omega arith) inside))
          (gives (λ env s t fine ready done. (done, tt)) begins)))

      -- in its home
      pub home_under : (home : ℕ) → home_of z.allocation.homes x ≡ Some home
          → Chooses (λ q. (q == home) || (q == 5)) New home home (mask_register z c 7) combine
          → Sets (n + 3 + length combine + 2) steps
          ((front ++ (fetch_code control 7 ++ combine)) ++ mirror_code z.allocation x)
      home_under home at chooses =
          let works = λ (q : ℕ). (q == home) || (q == 5) in
          let is = z.allocated.allowed x home at in
          as_code (ap (λ is. is ++ mirror_code z.allocation x) (sym (append_assoc front (fetch_code control 7) combine)))
          (gives
          (λ env s u fine ready done.
          let m1 = done.first.first.middle in
          let m2 = done.first.middle in
          let t = done.middle in
          let one = done.first.first.first in
          let mask = done.first.first.second in
          let two = done.first.second in
          let followed = done.second in
          let b = env.controls c in
          let v = new env in
          let old = slice_index (env.variables x) 0 in
          let held = ready.fits x d typed.known in
          let count = held.count (omega arith) in
          let new_fits = fits env ready.fits in
          let old_fits = held.within 0 0 (omega (arith, count)) in
          let kind = typed.word.kind in
          let ready2 = ready_with z env m1 m2 one.0 mask.held mask.same
          (fetched_homes z (mask_register z c 7) 7 (mask_of b) m1 m2 (inl (omega arith)) mask) in
          let made : t.regs home ≡ (if b then v else old) =
          ap (λ (regs : ℕ → ℕ). regs home) two.registers
          ∙ chooses.makes b v old m2.regs (kind_fits kind v new_fits) (kind_fits kind old old_fits)
          (new_stays m1.regs m2.regs v (λ q first second. mask.others q second) one.2)
          (ready2.homes_there x home d typed.known at) mask.there in
          record {
            ready = under_word z b x v env u count
                (ready_mirrored z x home (if b then v else old) typed.word typed.mutable typed.known at
                (chosen_fits b v old (2 ^ bits_of kind) new_fits old_fits) env m2 t u ready2
                (kept_by z (base_of z) m2 t two.same) made
                (λ q other apart. ap (λ (regs : ℕ → ℕ). regs q) two.registers
                ∙ register_left works combine m2.regs q chooses.plain
                (or_from (q == home) (q == 5) (ne_eqb q home apart)
                (ne_eqb q 5 (home_apart z q 5 other (omega arith))))) followed);
            hidden = hidden_then z depth s m1 u one.1 (hidden_by z depth m1 u (followed.same ∙ (two.same ∙ mask.same)));
          })
          (quiet
          (quiet
          (quiet begins (mask_runs z c 7 among read (omega arith) (omega arith)) (λ env s t ready done. done.0))
          (computing_within z works combine chooses.plain
          (λ r low. or_from (r == home) (r == 5) (ne_eqb r home (λ e. omega (arith, z.allocated.some, is.0, low, e)))
          (ne_eqb r 5 (λ e. omega (arith, low, e)))))
          (λ env s t ready done. done.second.held))
          (mirror_runs z x)
          (λ env s t ready done. done.second.held)))

    -- By its value, or by 0 where that is known to be 0.

    abbrev k : ℕ
    k = mask_register z c 7

    k_free : IsFree k
    k_free = mask_free z c 7 (omega arith) (omega arith)

    beside : k ≢ 5
    beside = mask_apart z c 7 5 (omega arith) (λ e. omega (arith, e))

    five : IsFree 5
    five = free_from 5 (omega arith) (omega arith)

    six : IsFree 6
    six = free_from 6 (omega arith) (omega arith)

    module _ (home : ℕ) (at : home_of z.allocation.homes x ≡ Some home) where
      home_free : IsFree home
      home_free = let is = z.allocated.allowed x home at in free_from home (omega (arith, is.0)) (omega (arith, is.1))

      home_beside : home ≢ 5
      home_beside = home_apart z home 5 (z.allocated.allowed x home at) (omega arith)

      abbrev works : ℕ → Bool
      works q = (q == home) || (q == 5)

      works_home : works home ≡ true
      works_home = ap (λ b. b || (home == 5)) (eq-eqb home home refl)

      works_five : works 5 ≡ true
      works_five = ap (λ b. b || true) (ne_eqb 5 home (λ e. home_beside (sym e)))

    -- code behind which a mirror follows
    follows : (home : ℕ) → home_of z.allocation.homes x ≡ Some home → (is : List Instr)
        → is ++ mirror_by (Some home) (mirror_of z.allocation x) ≡ is ++ mirror_code z.allocation x
    follows home at is = ap (λ (h : Option ℕ). is ++ mirror_by h (mirror_of z.allocation x)) (sym at)

    module _ (zero : (env : StraightState) → new env ≡ 0) where
      nothing : Runs z 0 none [] (Ready z) (Begun (λ regs v. v ≡ 0) new)
      nothing = idle (λ env s ready. (ready, λ o low high. refl, zero env))

      erased_at : (h : Option ℕ) → home_of z.allocation.homes x ≡ h
          → Sets 13 none (erase_under_code (at_home h (InSlot (variable_offset z.laid x))) control
          ++ mirror_by h (mirror_of z.allocation x))
      erased_at None away =
          as_code (append-nil (erase_under_code (InSlot (variable_offset z.laid x)) control))
          (cheaper (omega arith)
          (slot_under {New = λ regs v. v ≡ 0} (λ regs after v same none. none) nothing away
          (erases (λ q. q == 5) 5 5 6 k refl refl five five six k_free (λ e. omega (arith, e)) beside)))
      erased_at (Some home) at =
          let free = home_free home at in
          as_code (follows home at (erase_under_code (InRegister home) control))
          (cheaper (omega arith)
          (home_under {New = λ regs v. v ≡ 0} (λ regs after v same none. none) nothing home at
          (erases (works home at) home 5 home k (works_home home at) (works_five home at) free five free k_free
          (home_beside home at) beside)))

    module _ (room : base_of z + 4 * slots_to z.allocation.count (height_of value) ≤ z.size) where
      abbrev r : ℕ
      r = read_register z.allocation 5 value

      source : IsSourceRegister z 5 r
      source = read_source z value 5 (omega arith) (omega arith)

      r_free : IsFree r
      r_free = free_from r source.low (omega (arith, source.high))

      stays : (regs after : ℕ → ℕ) (v : ℕ) → ((q : ℕ) → q ≢ 6 → q ≢ 7 → after q ≡ regs q) → regs r ≡ v → after r ≡ v
      stays regs after v same there =
          same r (source_apart z source 6 (omega arith) (λ e. omega (arith, e)))
          (source_apart z source 7 (omega arith) (λ e. omega (arith, e))) ∙ there

      merged_at : (h : Option ℕ) → home_of z.allocation.homes x ≡ h
          → Sets (32 * nodes_work (term_nodes value)) (steps_of value) ((read_code (layout_of z) 5 0 value
          ++ set_under_code r (at_home h (InSlot (variable_offset z.laid x))) control)
          ++ mirror_by h (mirror_of z.allocation x))
      merged_at None away =
          as_code (append-nil (read_code (layout_of z) 5 0 value
          ++ set_under_code r (InSlot (variable_offset z.laid x)) control))
          (cheaper (omega arith)
          (slot_under {New = λ regs v. regs r ≡ v} stays (read_begun typed.suits.has_type room) away
          (merges (λ q. q == 5) 5 5 6 k refl refl five five six k_free (λ e. omega (arith, e)) beside r r_free)))
      merged_at (Some home) at =
          let free = home_free home at in
          as_code (follows home at (read_code (layout_of z) 5 0 value ++ set_under_code r (InRegister home) control))
          (cheaper (omega arith)
          (home_under {New = λ regs v. regs r ≡ v} stays (read_begun typed.suits.has_type room) home at
          (merges (works home at) home 5 home k (works_home home at) (works_five home at) free five free k_free
          (home_beside home at) beside r r_free)))

      pub set_under_runs : Sets (32 * nodes_work (term_nodes value)) (steps_of value)
          (statement_code (layout_of z) depth (set (Some c) x value))
      set_under_runs =
          let l = variable_location z.laid z.allocation x in
          as_code
          (choice_append (gives_zero z.allocation value) (erase_under_code l control)
          (read_code (layout_of z) 5 0 value ++ set_under_code r l control) (mirror_code z.allocation x))
          (by_test (gives_zero z.allocation value)
          (λ is.
          let zero = zero_known z.allocation value is in
          along (λ env. (known value 0 zero env.variables).1)
          (cheaper (omega arith)
          (erased_at (λ env. (known value 0 zero env.variables).0) (home_of z.allocation.homes x) refl)))
          (λ is. merged_at (home_of z.allocation.homes x) refl))
