-- What is shown once a number of a variable is written, and what is shown after a piece of a statement's code.
use Rattle.std.proofs.Common.{◌≡◌, ℕ, ◌+◌, ◌*◌, ◌%◌, ◌^◌, ◌<◌, ◌≤◌, ◌==◌, ◌≢◌, Bool, true, false, cond, if◌then◌else◌}
use Rattle.std.proofs.Common.{nat_lt, List, [], ◌∷◌, length, None, Some, slice_get, slice_index, refl, ap₂, sym, ap}
use Rattle.std.proofs.Common.{◌∙◌, subst, arith, inl, inr, ◌⊎◌, ◌&&◌, not, ne_eqb, Option, ◌++◌}
use Rattle.std.proofs.Math.Path.{fun_ext}
use Rattle.std.specs.Prelude.{slice_set}
use Rattle.codegen.proofs.Machine.{variable_offset, control_offset, next_offset, result_offset, ByteMap, number_at}
use Rattle.codegen.proofs.Machine.{assign_code, byte_count, home_of_term, home_or, read_code, read_register, store_size}
use Rattle.codegen.proofs.Machine.{stored_code, stored_register, gives_zero, slots_to, height_of, home_of, into_code}
use Rattle.codegen.proofs.Machine.{store_code, Instr, Sw}
use Rattle.codegen.proofs.Language.{StraightState, with_variable, with_element, FlatVariable, numbers_in, IsWithinKind}
use Rattle.codegen.proofs.Language.{word_as, TermTree, term_nodes, Boolean, WordType, value_in, types_of}
use Rattle.codegen.proofs.Language.{Kind, bits_of, Values, TermHasType, TermSuits, Profile}
use Rattle.codegen.proofs.Logic.{length-set, get_or-set_same, get_or-set_other, set-get_or, All-set, none-some}
use Rattle.codegen.proofs.Logic.{AreOfKinds, IsOfKind, terms_at}
use Rattle.codegen.proofs.Logic.{layout_of}
use Rattle.codegen.proofs.Logic.{mirrors_kept, same_Some, eqb-true, controls_kept, number_at_apart, number_at-with_number, HeldAt}
use Rattle.codegen.proofs.Logic.{mask_of, bytes_by, bytes_of, place_of, place_within, ends_before_result, apart_from}
use Rattle.codegen.proofs.Logic.{elements_apart, Setting, base_of, Kept, Ready, Wrote, wrote_kept, variables_kept}
use Rattle.codegen.proofs.Logic.{Before, After, Steps, Then, Still, steps_of, into_runs, Held, held_regs, HomesKept}
use Rattle.codegen.proofs.Logic.{IsHome, ValuedIn, home_beside, home_target, homes_by, kept_number, place_before}
use Rattle.codegen.proofs.Logic.{place_target, variables_home, is_free, idle, lt-ltb, works_at, IsTarget, Leaves, put}
use Rattle.codegen.proofs.Logic.{move_runs, setting, Runs, gives, cheaper, kept_less, kept_by, ready_below, along}
use Rattle.codegen.proofs.Logic.{home_allowed, home_there, known, none, quiet, ready_after, register-at, value_fits}
use Rattle.expression_code.specs.Allocation.{slot_of}
use Rattle.codegen.specs.private.Homes.{is_no_array}
use Rattle.codegen.specs.Below.{register, StoreOperation, words_of}
use Rattle.expression_code.proofs.Operands.{put_wrote}
use Rattle.expression_code.proofs.Moves.{is_left, put_code, putting}
use Rattle.expression_code.proofs.WorkRegisters.{cases_Option}
use Rattle.expression_code.proofs.Values.{kind_fits}
use Rattle.std.proofs.lemmas.Bool.{cases_Bool, cases_eq, cond_both}
use Rattle.rv_machine.specs.Machine as machine
pub use Rattle.codegen.proofs.HiddenWords.{Hidden, hidden_beyond, hidden_by, hidden_kept, hidden_less, hidden_number}
pub use Rattle.codegen.proofs.HiddenWords.{hidden_then, hidden_wrote}
use Rattle.expression_code.proofs.NumberCode.{zero_known}

-- what is written as a value of its kind is that value again
pub cut_number : (kind : Kind) (elements : Option ℕ) (v : ℕ) → v < 2 ^ bits_of kind
    → v % 256 ^ bytes_by kind elements ≡ v
cut_number kind None v h = omega (arith, kind_fits kind v h)
cut_number Boolean (Some size) v h = omega arith
cut_number kind (Some size) v h = omega arith

pub alone : (l : List ℕ) (v : ℕ) → length l ≡ 1 → slice_set l 0 v ≡ v ∷ []
alone (x ∷ []) v one = refl
alone l v one = absurd (omega arith)

module _ (z : Setting) where
  -- a number elsewhere is as it was
  pub other_number : (n o w m x : ℕ) (s t : machine.State) → Wrote z n o w s t → (x + m ≤ o) ⊎ (o + n ≤ x)
      → number_at t.bytes m (z.frame + x) ≡ number_at s.bytes m (z.frame + x)
  other_number n o w m x s t wrote apart =
      ap (λ (b : ByteMap). number_at b m (z.frame + x)) wrote.written
      ∙ number_at_apart s.bytes n (z.frame + o) w m (z.frame + x)
      (elim apart [ inl h ↦ inl (omega arith) | inr h ↦ inr (omega arith) ])

  -- a state that is shown by the same values
  pub ready_same : (one other : StraightState) (s : machine.State) → ((x : ℕ) → one.variables x ≡ other.variables x)
      → ((c : ℕ) → one.controls c ≡ other.controls c) → Ready z one s → Ready z other s
  ready_same one other s same_variables same_controls ready =
      let same : one ≡ other =
      ap₂ (λ (m : Values) (c : ℕ → Bool). let env : StraightState = record { variables = m; controls = c } in
      env) (fun_ext same_variables) (fun_ext same_controls) in
      subst (λ (env : StraightState). Ready z env s) same ready

  -- the numbers of a variable without a home are others, and all that lies outside its words is as it was
  module _ (x : ℕ) (d : FlatVariable) (known : slice_get z.declared x ≡ Some d)
      (away : home_of z.allocation.homes x ≡ None) (l : List ℕ) (holds : IsOfKind d l) (env : StraightState)
      (s t : machine.State) (ready : Ready z env s) (held : HeldAt z t)
      (there : (j : ℕ) → j < numbers_in d.elements
      → number_at t.bytes (bytes_of d) (z.frame + place_of z.laid x d j) ≡ Some (slice_index l j))
      (apart : (n o : ℕ) → (o + n ≤ variable_offset z.laid x)
      ⊎ (variable_offset z.laid x + 4 * words_of d ≤ o)
      → number_at t.bytes n (z.frame + o) ≡ number_at s.bytes n (z.frame + o))
      (homes : HomesKept z s t) where
    lies : slice_get z.laid x ≡ Some d
    lies = z.lies x d known away

    -- what is so of the variable and its new numbers, and of each other one and its old ones, is so of each
    at_each : (P : ℕ → FlatVariable → List ℕ → Type 0) → P x d l
        → ((y : ℕ) (e : FlatVariable) → slice_get z.declared y ≡ Some e → (y == x) ≡ false → P y e (env.variables y))
        → (y : ℕ) (e : FlatVariable) → slice_get z.declared y ≡ Some e → P y e (cond (y == x) l (env.variables y))
    at_each P own other y e is =
        cond_both (y == x) l (env.variables y) (P y e)
        (λ q.
        let at = eqb-true y x q in
        let same = same_Some d e (sym known ∙ (ap (slice_get z.declared) (sym at) ∙ is)) in
        subst (λ n. P n e l) (sym at) (subst (λ (f : FlatVariable). P x f l) same own))
        (other y e is)

    pub ready_changed : Ready z (with_variable env x l) t
    ready_changed =
        record {
          held = held;
          fits = at_each (λ y e m. IsOfKind e m) holds (λ y e is q. ready.fits y e is);
          homes_there = λ y home e.
              at_each (λ n f m. home_of z.allocation.homes n ≡ Some home → t.regs home ≡ slice_index m 0)
              (λ at. absurd (none-some home (sym away ∙ at)))
              (λ n f is q at. variables_home z env s t ready homes n home f is at) y e;
          variables_there = λ y e j.
              at_each (λ n f m. home_of z.allocation.homes n ≡ None → j < numbers_in f.elements
              → number_at t.bytes (bytes_of f) (z.frame + place_of z.laid n f j) ≡ Some (slice_index m j))
              (λ out. there j)
              (λ n f is q out more.
              apart (bytes_of f) (place_of z.laid n f j) (apart_from z.laid x n d f j lies
              (z.lies n f is out) more q)
              ∙ ready.variables_there n f j is out more) y e;
          controls_there = λ c among read. controls_kept z env s t ready homes c among read
              (apart 4 (control_offset z.laid c) (inr (omega (arith, ends_before_result z.laid x d lies))));
          mirrors_there = mirrors_kept z env s t ready homes;
        }

  module _ (x i v w : ℕ) (d : FlatVariable) (known : slice_get z.declared x ≡ Some d)
      (away : home_of z.allocation.homes x ≡ None) (below : i < numbers_in d.elements)
      (fits : v < 2 ^ bits_of d.word.kind)
      (env : StraightState) (s t : machine.State) (ready : Ready z env s)
      (wrote : Wrote z (bytes_of d) (place_of z.laid x d i) w s t) (cut : w % 256 ^ bytes_of d ≡ v) where
    abbrev old : List ℕ
    old = env.variables x

    same_there : (j : ℕ) → j < numbers_in d.elements
        → number_at t.bytes (bytes_of d) (z.frame + place_of z.laid x d j)
        ≡ Some (slice_index (slice_set old i v) j)
    same_there j more =
        elim (cases_eq j i) [
          | inl same ↦
              let long = (ready.fits x d known).count (omega (arith, below)) in
              let at = z.frame + place_of z.laid x d i in
              rw same (ap (λ (b : ByteMap). number_at b (bytes_of d) at) wrote.written
              ∙ (number_at-with_number s.bytes (bytes_of d) at w
              ∙ ap Some (cut ∙ sym (get_or-set_same old i v 0 (omega arith)))))
          | inr other ↦
              other_number (bytes_of d) (place_of z.laid x d i) w (bytes_of d) (place_of z.laid x d j) s t wrote
              (elements_apart z.laid x d i j (ne_eqb j i other))
              ∙ (ready.variables_there x d j known away more ∙ ap Some (sym (get_or-set_other old i j v 0 other)))
        ]

    outside : (n o : ℕ) → (o + n ≤ variable_offset z.laid x) ⊎ (variable_offset z.laid x + 4 * words_of d ≤ o)
        → number_at t.bytes n (z.frame + o) ≡ number_at s.bytes n (z.frame + o)
    outside n o apart =
        other_number (bytes_of d) (place_of z.laid x d i) w n o s t wrote
        (elim apart [ inl h ↦ inl (omega arith) | inr h ↦ inr (omega (arith, place_within z.laid x d i below)) ])

    -- a number of a variable is set
    pub ready_put : Ready z (with_element env x i v) t
    ready_put =
        let before = ready.fits x d known in
        ready_changed x d known away (slice_set old i v)
        (record {
          count = λ some. length-set old i v ∙ before.count some;
          within = All-set (IsWithinKind d.word.kind) old i v fits before.within;
        })
        env s t ready wrote.held same_there outside wrote.homes

  -- a word has one element
  pub ready_alone : (env : StraightState) (x v : ℕ) (t : machine.State) → length (env.variables x) ≡ 1
      → Ready z (with_element env x 0 v) t → Ready z (with_variable env x (v ∷ [])) t
  ready_alone env x v t one ready =
      ready_same (with_element env x 0 v) (with_variable env x (v ∷ [])) t
      (λ y. ap (λ (l : List ℕ). if y == x then l else env.variables y) (alone (env.variables x) v one))
      (λ c. refl) ready

  -- a word is set
  module _ (x v : ℕ) (word : WordType) (mutable : Bool) (known : slice_get z.declared x ≡ Some (word_as word mutable))
      (away : home_of z.allocation.homes x ≡ None) (fits : v < 2 ^ bits_of word.kind)
      (env : StraightState) (s t : machine.State) (ready : Ready z env s)
      (wrote : Wrote z 4 (variable_offset z.laid x) v s t) where
    pub ready_set : Ready z (with_variable env x (v ∷ [])) t
    ready_set =
        let small = kind_fits word.kind v fits in
        let first : variable_offset z.laid x ≡ place_of z.laid x (word_as word mutable) 0 = omega arith in
        ready_alone env x v t ((ready.fits x (word_as word mutable) known).count (omega arith))
        (ready_put x 0 v v (word_as word mutable) known away (omega arith) fits env s t ready
        (subst (λ o. Wrote z 4 o v s t) first wrote) (omega arith))

  -- an element is set or kept
  pub ready_chosen : (b : Bool) (x i v : ℕ) (env : StraightState) (t : machine.State)
      → Ready z (with_element env x i (if b then v else slice_index (env.variables x) i)) t
      → Ready z (if b then with_element env x i v else env) t
  ready_chosen true x i v env t ready = ready
  ready_chosen false x i v env t ready =
      ready_same (with_element env x i (slice_index (env.variables x) i)) env t
      (λ y. cond_both (y == x) _ (env.variables y) (λ (l : List ℕ). l ≡ env.variables y)
      (λ e. set-get_or (env.variables x) i 0 ∙ ap env.variables (sym (eqb-true y x e))) (λ e. refl)) (λ c. refl) ready

-- Each variable, with a home or without, has its values in its slot, and each control value too. One that takes no
-- words is 0.
pub record Laid (z : Setting) (env : StraightState) (s : machine.State) : Type 0 where
  pub held : HeldAt z s
  pub fits : AreOfKinds (types_of z.code.profile z.declared) env.variables
  pub laid_fits : AreOfKinds (types_of z.code.profile z.laid) env.variables
  pub slots_there : (x : ℕ) (d : FlatVariable) (i : ℕ) → slice_get z.laid x ≡ Some d → i < numbers_in d.elements
      → number_at s.bytes (bytes_of d) (z.frame + place_of z.laid x d i) ≡ Some (slice_index (env.variables x) i)
  pub zeros_there : (x home : ℕ) → home_of z.allocation.homes x ≡ Some home
      → is_no_array (slice_get z.laid x) ≡ false → slice_index (env.variables x) 0 ≡ 0
  pub controls_there : (c : ℕ) → c < z.controls
      → number_at s.bytes 4 (z.frame + control_offset z.laid c) ≡ Some (mask_of (env.controls c))

-- where the bytes before the temporaries are the same, whatever the registers hold
pub laid_same : (z : Setting) (free : ℕ) → next_offset (layout_of z) 0 ≤ free
    → (env : StraightState) (s t : machine.State) → Laid z env s → HeldAt z t → Kept z free s t → Laid z env t
laid_same z free above env s t laid held kept = record {
  held = held;
  fits = laid.fits;
  laid_fits = laid.laid_fits;
  zeros_there = laid.zeros_there;
  slots_there = λ x d i is below. kept_number z free s t kept (bytes_of d) (place_of z.laid x d i)
      (omega (arith, place_before z x d i is below, above)) ∙ laid.slots_there x d i is below;
  controls_there = λ c below. kept_number z free s t kept 4 (control_offset z.laid c)
      (omega arith) ∙ laid.controls_there c below;
}

-- the state that is made of the one before is shown, and the words of the loops around are as they were
pub record StateShown (z : Setting) (depth : ℕ) (change : StraightState
    → StraightState) (env : StraightState) (s t : machine.State) : Type 0 where
  pub ready : Ready z (change env) t
  pub hidden : Hidden z depth s t

-- a register has what an expression means, and only temporaries are written
pub record Evaluated (z : Setting) (e : TermTree) (r : ℕ) (env : StraightState) (s t : machine.State) : Type 0 where
  pub held : HeldAt z t
  pub there : t.regs r ≡ value_in env.variables e
  pub kept : Kept z (base_of z) s t
  pub homes : HomesKept z s t

-- An expression that is read where it is.

-- a register that is read or put: the one that was asked for, or a home
pub record IsSourceRegister (z : Setting) (asked r : ℕ) : Type 0 where
  pub low : 4 < r
  pub high : r < 28
  pub is : (r ≡ asked) ⊎ IsHome z.allocation.count r

pub read_source : (z : Setting) (e : TermTree) (asked : ℕ) → 4 < asked → asked < 28
    → IsSourceRegister z asked (read_register z.allocation asked e)
read_source z e asked low high =
    elim (cases_Option (home_of_term z.allocation e)) [
      | inl found ↦
          let allowed = home_allowed z.declared z.allocation z.allocated e found.0 found.1 in
          rw found.1 (record { low = omega arith; high = allowed.1; is = inr allowed })
      | inr at ↦ rw at (record { low = low; high = high; is = inl refl })
    ]

-- none of the first three temporaries but the one that was asked for
pub source_apart : (z : Setting) {asked r : ℕ} → IsSourceRegister z asked r → (q : ℕ) → q < 8 → asked ≢ q → r ≢ q
source_apart z source q low other e =
    elim source.is [ inl is ↦ other (sym is ∙ e) | inr home ↦ omega (arith, z.allocated.some, home.0, e, low) ]

-- it can be put into the frame
pub puts : (z : Setting) {asked r : ℕ} → IsSourceRegister z asked r →
    (is_free r && (nat_lt r 32 && not (r == 28))) ≡ true
puts z {asked = asked} {r = r} source =
    let free : is_free r ≡ true = lt-ltb 4 r source.low in
    let few : nat_lt r 32 ≡ true = lt-ltb r 32 (omega arith) in
    let beside : (r == 28) ≡ false = ne_eqb r 28 (omega arith) in
    simp (free, few, beside)

-- a value that suits a type is within the type's kind
pub suits_fits : (profile : Profile) (declared : List FlatVariable) (word : WordType) (e : TermTree) (m : Values)
    → AreOfKinds (types_of profile declared) m → TermSuits (types_of profile declared) word e
    → value_in m e < 2 ^ bits_of word.kind
suits_fits profile declared word e m fits suits =
    subst (λ (kind : Kind). value_in m e < 2 ^ bits_of kind) suits.kind
    (value_fits (types_of profile declared) m fits suits.has_type)

module _ (z : Setting) where
  -- A register, or a home, has an expression's value, and only the temporaries from a place on are written.
  pub record ReadIn (e : TermTree) (r place : ℕ) (h : Option ℕ) (env : StraightState) (s t : machine.State) :
      Type 0 where
    pub held : HeldAt z t
    pub there : t.regs (home_or h r) ≡ value_in env.variables e
    pub kept : Kept z (base_of z) s t
    pub lower : Leaves (works_at z.allocation.count place r) s t

  pub reads : {e : TermTree} {word : WordType} (r place : ℕ) → IsTarget z.allocation.count place r
      → TermHasType (types_of z.code.profile z.declared) e word
      → base_of z + 4 * slots_to z.allocation.count (height_of e + place) ≤ z.size
      → Runs z (16 * term_nodes e) (steps_of e) (read_code (layout_of z) r place e) (Ready z)
      (ReadIn e r place (home_of_term z.allocation e))
  reads {e = e} r place target has room =
      elim (cases_Option (home_of_term z.allocation e)) [
        | inl found ↦
            let home_is = home_there z has found.0 found.1 in
            rw found.1 (along (λ env. home_is.quiet env.variables)
            (idle (λ env s ready. assumption (home_is.there env s ready))))
        | inr at ↦ rw at (cheaper (omega arith)
            (gives {P = Ready z}
            (λ env s t fine ready done.
            let before = slot_of z.allocation.count (base_of z) place in
            assumption (kept_less z (base_of z) before s t (omega arith) done.kept))
            (into_runs z (base_of z) (omega arith) (omega arith) has place r target room)))
      ]

  -- that of an expression that no temporary lives beside
  pub read_runs : {e : TermTree} {word : WordType} → TermHasType (types_of z.code.profile z.declared) e word
      → base_of z + 4 * slots_to z.allocation.count (height_of e) ≤ z.size
      → Runs z (16 * term_nodes e) (steps_of e) (read_code (layout_of z) 5 0 e) (Ready z)
      (Evaluated z e (read_register z.allocation 5 e))
  read_runs has room =
      let count = z.allocation.count in
      gives
      (λ env s t fine ready done.
      let homes : HomesKept z s t = λ r home.
      done.lower r (home_beside count 0 5 r home.0 home.1 (omega arith)) in
      assumption)
      (reads 5 0 (place_target count 0 z.allocated.few (omega arith)) has (omega arith))

  -- An expression into a home.
  pub homed_runs : {e : TermTree} {word : WordType} (home : ℕ) → IsHome z.allocation.count home
      → TermHasType (types_of z.code.profile z.declared) e word
      → base_of z + 4 * slots_to z.allocation.count (height_of e) ≤ z.size
      → Runs z (16 * term_nodes e) (steps_of e) (into_code (terms_at z (base_of z)) home 0 e) (Ready z)
      (ValuedIn z e (base_of z) home 0)
  homed_runs home is has room =
      cheaper (omega arith)
      (into_runs z (base_of z) (omega arith) (omega arith) has 0 home
      (home_target z.allocation.count 0 home z.allocated.few is) (omega arith))

  -- the state is shown after an expression as before it
  pub ready_valued : (e : TermTree) {r : ℕ} (env : StraightState) (s t : machine.State) → Ready z env s
      → Evaluated z e r env s t → Ready z env t
  ready_valued e env s t ready valued = ready_after z env s t ready valued.held valued.kept valued.homes

  -- as long as nothing is written
  pub ready_with : (env : StraightState) (s t : machine.State) → Ready z env s → HeldAt z t → t.bytes ≡ s.bytes
      → HomesKept z s t → Ready z env t
  ready_with env s t ready held same homes = ready_after z env s t ready held (kept_by z (base_of z) s t same) homes

  pub ready_still : (env : StraightState) (s t : machine.State) → Ready z env s → Still s t → Ready z env t
  ready_still env s t ready still =
      ready_with env s t ready (held_regs z s t (ap (λ (regs : ℕ → ℕ). regs 2) still.regs) still.bytes ready.held)
      still.bytes (homes_by z s t still.regs)

  -- or only a number that lies behind the control values
  pub ready_behind : (n o w : ℕ) → next_offset (layout_of z) 0 ≤ o
      → (env : StraightState) (s t : machine.State) → Ready z env s → Wrote z n o w s t → Ready z env t
  ready_behind n o w above env s t ready wrote =
      ready_below z o above env s t ready wrote.held (wrote_kept z n o w s t wrote) wrote.homes

  -- or only the result's slot
  pub ready_result : (env : StraightState) (s t : machine.State) (w : ℕ) → Ready z env s
      → Wrote z 4 (result_offset z.laid) w s t → Ready z env t
  ready_result env s t w ready wrote = record {
    held = wrote.held;
    fits = ready.fits;
    homes_there = variables_home z env s t ready wrote.homes;
    variables_there = variables_kept z (result_offset z.laid) env s t (omega arith) ready
        (wrote_kept z 4 (result_offset z.laid) w s t wrote);
    controls_there = λ c below read. controls_kept z env s t ready wrote.homes c below read
        (other_number z 4 (result_offset z.laid) w 4 (control_offset z.laid c) s t wrote
        (inr (omega arith)));
    mirrors_there = mirrors_kept z env s t ready wrote.homes;
  }

  -- a word without a home lies before the result
  pub word_before : (x : ℕ) (word : WordType) (mutable : Bool) → slice_get z.declared x ≡ Some (word_as word mutable)
      → home_of z.allocation.homes x ≡ None → variable_offset z.laid x + 4 ≤ result_offset z.laid
  word_before x word mutable known away =
      omega (arith, ends_before_result z.laid x (word_as word mutable) (z.lies x (word_as word mutable) known away))

  pub wrote_as : (n o v w : ℕ) (s t : machine.State) → v ≡ w → Wrote z n o v s t → Wrote z n o w s t
  wrote_as n o v w s t is wrote = subst (λ u. Wrote z n o u s t) is wrote

  -- What is in a register, put into a word of the frame.
  pub stored : {n : ℕ} {steps : Steps} {xs : List Instr} {P : Before} {Q : After} (r o : ℕ) (v : StraightState → ℕ)
      → (is_free r && (nat_lt r 32 && not (r == 28))) ≡ true → o % 4 ≡ 0 → o + 4 ≤ z.size
      → Runs z n steps xs P Q → ((env : StraightState) (s t : machine.State) → P env s → Q env s t
      → HeldAt z t × (t.regs r ≡ v env))
      → Runs z (n + 3) steps (xs ++ store_code r o) P (Then (setting z) Q (λ env s t. Wrote z 4 o (v env) s t))
  stored r o v ok even inside runs has =
      gives
      (λ env s t fine given done. record {
        middle = done.middle;
        first = done.first;
        second = put_wrote z Sw r o (v env) env done.middle t (has env s done.middle given done.first).1 done.second;
      })
      (quiet runs (move_runs z (put Sw r o) (simp ok) (even, inside))
      (λ env s t given done. (has env s t given done).0))

  -- A value that is stored: its register reads as what the expression means, and only temporaries are written.
  pub record Offered (e : TermTree) (r : ℕ) (env : StraightState) (s t : machine.State) : Type 0 where
    pub held : HeldAt z t
    pub there : register t.regs r ≡ value_in env.variables e
    pub kept : Kept z (base_of z) s t
    pub homes : HomesKept z s t

  pub offered_low : (e : TermTree) → stored_register z.allocation e < 28
  offered_low e =
      cond_both (gives_zero z.allocation e) 0 (read_register z.allocation 5 e) (λ r. r < 28) (λ zero. omega arith)
      (λ some. (read_source z e 5 (omega arith) (omega arith)).high)

  pub offered_runs : {e : TermTree} {word : WordType} → TermHasType (types_of z.code.profile z.declared) e word
      → base_of z + 4 * slots_to z.allocation.count (height_of e) ≤ z.size
      → Runs z (16 * term_nodes e) (steps_of e) (stored_code (layout_of z) e) (Ready z)
      (Offered e (stored_register z.allocation e))
  offered_runs {e = e} has room =
      elim (cases_Bool (gives_zero z.allocation e)) [
        | inl is ↦
            let zero = known e 0 (zero_known z.allocation e is) in
            rw is (along (λ env. (zero env.variables).1)
            (idle (λ env s ready. assumption (sym (zero env.variables).0))))
        | inr is ↦
            let source = read_source z e 5 (omega arith) (omega arith) in
            rw is (gives
            (λ env s t fine ready done. assumption (
            register-at t.regs (read_register z.allocation 5 e) (omega arith) ∙ done.there))
            (read_runs has room))
      ]

  -- What a register reads as, put into the frame.
  pub offered_put : (operation : StoreOperation) (r o : ℕ) → r < 28 → o % byte_count (store_size operation) ≡ 0
      → o + byte_count (store_size operation) ≤ z.size
      → Runs z 3 none (put_code operation r o) (Held z)
      (λ env s t. Wrote z (byte_count (store_size operation)) o (register s.regs r) s t)
  offered_put operation r o low even inside =
      gives
      (λ env s t fine held done.
      let homes : HomesKept z s t = λ q home. is_left s.regs 28 _ done.1 q (omega arith) in
      assumption)
      (putting z operation r o (omega (arith, low)) (omega (arith, low)) even inside)

  -- an expression's value
  pub assigned : {e : TermTree} {word : WordType} (o : ℕ) → TermHasType (types_of z.code.profile z.declared) e word
      → base_of z + 4 * slots_to z.allocation.count (height_of e) ≤ z.size → o % 4 ≡ 0 → o + 4 ≤ z.size
      → Runs z (16 * term_nodes e + 3) (steps_of e) (assign_code (layout_of z) e o) (Ready z)
      (Then (setting z) (Offered e (stored_register z.allocation e))
      (λ env s t. Wrote z 4 o (value_in env.variables e) s t))
  assigned {e = e} o has room even inside =
      gives
      (λ env s t fine ready done. record {
        middle = done.middle;
        first = done.first;
        second = wrote_as 4 o _ _ done.middle t done.first.there done.second;
      })
      (quiet (offered_runs has room)
      (offered_put Sw (stored_register z.allocation e) o (offered_low e) even inside)
      (λ env s t ready offered. offered.held))

  -- the state is shown after an expression as before it
  pub ready_offered : (e : TermTree) {r : ℕ} (env : StraightState) (s t : machine.State) → Ready z env s
      → Offered e r env s t → Ready z env t
  ready_offered e env s t ready offered = ready_after z env s t ready offered.held offered.kept offered.homes

  -- the loops' words are as they were once a value is written before them
  pub hidden_valued : (depth : ℕ) → depth ≤ z.depths
      → (e : TermTree) {r : ℕ} (env : StraightState) (n o w : ℕ) (s m t : machine.State)
      → o + n ≤ next_offset (layout_of z) 0
      → Offered e r env s m → Wrote z n o w m t → Hidden z depth s t
  hidden_valued depth within e env n o w s m t before offered wrote =
      hidden_then z depth s m t (hidden_kept z depth s m within offered.kept)
      (hidden_wrote z depth n o w m t before wrote)
