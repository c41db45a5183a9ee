-- Masks of control values: the registers that have them, how they come there and into their slots, and what is shown
-- once both of a condition are set.
use Rattle.std.proofs.Common.{◌≡◌, ℕ, ◌+◌, ◌^◌, ◌<◌, ◌≤◌, ◌==◌, ◌≢◌, Bool, true, false, cond, nat_lt, List, length}
use Rattle.std.proofs.Common.{None, Some, refl, sym, ap, ◌∙◌, arith, inl, inr, ◌⊎◌, ◌&&◌, not, ne_eqb}
use Rattle.std.proofs.lemmas.Bool.{cases_eq, eq-eqb, true≢false}
use Rattle.codegen.proofs.Machine.{control_offset, number_at, at_home, control_location, fetch_code, InSlot, is_unread}
use Rattle.codegen.proofs.Machine.{kept_code, read_register, register_of, unless_unread, home_of, home_of_term, Instr}
use Rattle.codegen.proofs.Machine.{Mirror, mirror_of, sum_of, Sw}
use Rattle.codegen.proofs.Language.{element_bytes}
use Rattle.codegen.proofs.Logic.{mirror_register}
use Rattle.std.proofs.Common.{◌*◌}
use Rattle.codegen.proofs.Language.{StraightState, with_controls, TermTree, WordType, types_of, TermHasType}
use Rattle.codegen.proofs.Logic.{free_from, none-some, at_control, control_stays, Fetched, fetch_runs, HasRoom, Holds}
use Rattle.codegen.proofs.Logic.{layout_of}
use Rattle.codegen.proofs.Logic.{move_runs, none, slice_get_within, weaken, HeldAt, mask_of, apart, Setting, base_of}
use Rattle.codegen.proofs.Logic.{Kept, Ready, Wrote, wrote_kept, wrote_there, variables_kept, HomesKept, IsHome}
use Rattle.codegen.proofs.Logic.{kept_number, home_there, is_free, idle, put, Runs, kept_less, kept_then}
use Rattle.expression_code.proofs.Moves.{is_left}
use Rattle.expression_code.proofs.Operands.{put_wrote}
use Rattle.expression_code.proofs.WorkRegisters.{IsFree, cases_Option}
use Rattle.rv_machine.specs.Machine as machine
use Rattle.codegen.proofs.Slots.{Hidden, hidden_wrote, other_number}

module _ (z : Setting) where
  -- two control values lie apart
  controls_apart : (y c : ℕ) → (y == c) ≡ false → (control_offset z.laid y + 4 ≤ control_offset z.laid c)
      ⊎ (control_offset z.laid c + 4 ≤ control_offset z.laid y)
  controls_apart y c h = apart c y _ h (λ below. inl (omega arith)) (λ above. inr (omega arith))

  -- the register of a control value's mask: its home, or a spare one
  abbrev pub mask_register : ℕ → ℕ → ℕ
  mask_register c spare = register_of (control_location (layout_of z) c) spare

  -- it is no other one of the first three temporaries
  pub mask_apart : (c spare q : ℕ) → q < 8 → spare ≢ q → mask_register c spare ≢ q
  mask_apart c spare q low other =
      at_control z c (λ l. register_of l spare ≢ q)
      (λ home at e. omega (arith, z.allocated.some, (z.allocated.allowed (length z.laid + c) home at).0, e, low))
      (λ away e. other e)

  -- nor does any other word live there
  pub mask_beside : (c spare y home : ℕ) → spare < 8 → y ≢ length z.laid + c
      → home_of z.allocation.homes y ≡ Some home → home ≢ mask_register c spare
  mask_beside c spare y home low other here =
      at_control z c (λ l. home ≢ register_of l spare)
      (λ own at e. other (z.allocated.apart y (length z.laid + c) own (here ∙ ap Some e) at))
      (λ away e. omega (arith, z.allocated.some, (z.allocated.allowed y home here).0, e, low))

  -- and it is no mirror
  mask_no_mirror : (c spare x : ℕ) (mirror : Mirror) → spare < 8 → mirror_of z.allocation x ≡ Some mirror
      → mirror.register ≢ mask_register c spare
  mask_no_mirror c spare x mirror low is =
      at_control z c (λ l. mirror.register ≢ register_of l spare)
      (λ own at e. z.allocated.mirror_apart x (length z.laid + c) own mirror is at (sym e))
      (λ away e. omega (arith, z.allocated.some, (mirror_register z x mirror is).0, e, low))

  -- code may work on it
  pub mask_free : (c spare : ℕ) → 4 < spare → spare < 32 → IsFree (mask_register c spare)
  mask_free c spare low high =
      at_control z c (λ l. IsFree (register_of l spare))
      (λ home at. let is = z.allocated.allowed (length z.laid + c) home at in
      free_from home (omega arith) (omega arith))
      (λ away. free_from spare low high)

  -- The mask of a control value in its register.
  pub mask_runs : (c spare : ℕ) → c < z.controls → is_unread z.allocation c ≡ false → 4 < spare → spare < 32
      → Runs z 3 none (fetch_code (control_location (layout_of z) c) spare) (Ready z)
      (λ env s t. Fetched z (mask_register c spare) spare (mask_of (env.controls c)) s t)
  mask_runs c spare among read low high =
      weaken
      (λ env s fine ready. (ready.held, ready.controls_there c among read))
      (λ env s t fine ready done. done)
      (fetch_runs z spare low high (λ env. mask_of (env.controls c)) (control_location (layout_of z) c)
      (at_control z c (HasRoom z) (λ home at. tt) (λ away. (omega arith, omega arith))))

  -- none of the first three temporaries is a home
  pub home_apart : (q n : ℕ) → IsHome z.allocation.count q → n < 8 → q ≢ n
  home_apart q n home low = omega (arith, z.allocated.some)

  -- so no home is written by that
  pub fetched_homes : (r spare v : ℕ) (s t : machine.State) → (spare < 8) ⊎ (27 < spare) → Fetched z r spare v s t
      → HomesKept z s t
  fetched_homes r spare v s t apart fetched q home =
      fetched.others q (elim apart [ inl low ↦ home_apart q spare home low | inr high ↦ omega arith ])

  -- a control value's register, where it is one of the first three temporaries, is put into its slot, unless nothing
  -- reads it
  pub record MaskPut (c v : ℕ) (s t : machine.State) : Type 0 where
    pub held : HeldAt z t
    pub others : (q : ℕ) → q ≢ 28 → t.regs q ≡ s.regs q
    pub written : is_unread z.allocation c ≡ false → home_of z.allocation.homes (length z.laid + c) ≡ None
        → number_at t.bytes 4 (z.frame + control_offset z.laid c) ≡ Some v
    pub apart : (n x : ℕ) → (x + n ≤ control_offset z.laid c) ⊎ (control_offset z.laid c + 4 ≤ x)
        → number_at t.bytes n (z.frame + x) ≡ number_at s.bytes n (z.frame + x)
    pub lower : Kept z (control_offset z.laid c) s t
    pub hidden : (depth : ℕ) → Hidden z depth s t

  -- both control values of a condition are set
  module _ (c : ℕ) (f g : Bool) (among : c + 1 < z.controls) (env : StraightState) (s m t u : machine.State)
      (ready : Ready z env s) (kept : Kept z (base_of z) s m)
      (homes : (r : ℕ) → IsHome z.allocation.count r → r ≢ mask_register c 7 → r ≢ mask_register (c + 1) 5
      → m.regs r ≡ s.regs r)
      (seven : is_unread z.allocation c ≡ false → m.regs (mask_register c 7) ≡ mask_of f)
      (five : is_unread z.allocation (c + 1) ≡ false → m.regs (mask_register (c + 1) 5) ≡ mask_of g)
      (one : MaskPut c (mask_of f) m t) (two : MaskPut (c + 1) (mask_of g) t u) where
    abbrev n : ℕ
    n = length z.laid

    stays : HomesKept z m u
    stays r home =
        two.others r (omega arith) ∙ one.others r (omega arith)

    -- a word that is neither of them
    others : (y home : ℕ) → y ≢ n + c → y ≢ n + (c + 1) → home_of z.allocation.homes y ≡ Some home
        → u.regs home ≡ s.regs home
    others y home first second at =
        let is = z.allocated.allowed y home at in
        stays home is
        ∙ homes home is (mask_beside c 7 y home (omega arith) first at)
        (mask_beside (c + 1) 5 y home (omega arith) second at)

    -- one of them at home
    at_home_of : (d spare v : ℕ) → m.regs (mask_register d spare) ≡ v → (home : ℕ)
        → home_of z.allocation.homes (n + d) ≡ Some home → u.regs home ≡ v
    at_home_of d spare v is home at =
        let same : mask_register d spare ≡ home =
        ap (λ h. register_of (at_home h (InSlot (control_offset z.laid d))) spare) at in
        stays home (z.allocated.allowed (n + d) home at) ∙ (ap m.regs (sym same) ∙ is)

    control_there : (y : ℕ) → y < z.controls → is_unread z.allocation y ≡ false
        → Holds z (control_location (layout_of z) y) u
        (mask_of (cond (y == c) f (cond (y == c + 1) g (env.controls y))))
    control_there y below read =
        elim (cases_eq y c) [
          | inl is ↦
              let own = rw is at read in
              rw (is, eq-eqb c c refl)
              (at_control z c (λ l. Holds z l u (mask_of f)) (at_home_of c 7 (mask_of f) (seven own))
              (λ away. two.apart 4 (control_offset z.laid c) (inl (omega arith)) ∙ one.written own away))
          | inr other ↦ rw (ne_eqb y c other) (elim (cases_eq y (c + 1)) [
            | inl is ↦
                let own = rw is at read in
                rw (is, eq-eqb (c + 1) (c + 1) refl)
                (at_control z (c + 1) (λ l. Holds z l u (mask_of g)) (at_home_of (c + 1) 5 (mask_of g) (five own))
                (two.written own))
            | inr another ↦ rw (ne_eqb y (c + 1) another)
                (control_stays z y (mask_of (env.controls y)) s u
                (λ home at. others (n + y) home (λ e. other (omega arith)) (λ e. another (omega arith)) at)
                (two.apart 4 (control_offset z.laid y) (controls_apart y (c + 1) (ne_eqb y (c + 1) another))
                ∙ (one.apart 4 (control_offset z.laid y) (controls_apart y c (ne_eqb y c other))
                ∙ kept_number z (base_of z) s m kept 4 (control_offset z.laid y) (omega arith)))
                (ready.controls_there y below read))
          ])
        ]

    pub ready_taken : Ready z (with_controls env c f g) u
    ready_taken = record {
      held = two.held;
      fits = ready.fits;
      homes_there = λ x home d is at.
          let below = slice_get_within z.declared x d is in
          others x home (omega (arith, below, z.as_many)) (omega (arith, below, z.as_many)) at
          ∙ ready.homes_there x home d is at;
      variables_there =
          variables_kept z (control_offset z.laid c) env s u (omega arith) ready
          (kept_then z (control_offset z.laid c) s t u
          (kept_then z (control_offset z.laid c) s m t
          (kept_less z (control_offset z.laid c) (base_of z) s m (omega arith) kept) one.lower)
          (kept_less z (control_offset z.laid c) (control_offset z.laid (c + 1)) t u (omega arith) two.lower));
      controls_there = control_there;
      mirrors_there = λ x home mirror is at.
          let low = mirror_register z x mirror is in
          let below = (z.allocated.mirrored x mirror is).0 in
          stays mirror.register low
          ∙ homes mirror.register low (mask_no_mirror c 7 x mirror (omega arith) is)
          (mask_no_mirror (c + 1) 5 x mirror (omega arith) is)
          ∙ (ready.mirrors_there x home mirror is at
          ∙ ap (λ w. sum_of (element_bytes mirror.kind * w) z.frame)
          (sym (others x home (omega (arith, below, z.as_many)) (omega (arith, below, z.as_many)) at)));
    }

  -- a control value's mask is put where it belongs, unless nothing reads it
  abbrev PutsMask : ℕ → ℕ → (StraightState → ℕ) → List Instr → Type 0
  PutsMask c r v code = Runs z 3 none code
      (λ env s. HeldAt z s × (v env < 2 ^ 32)
      × (is_unread z.allocation c ≡ false → home_of z.allocation.homes (length z.laid + c) ≡ None
      → s.regs r ≡ v env))
      (λ env s t. MaskPut c (v env) s t)

  pub mask_put : (c r : ℕ) (v : StraightState → ℕ) → c < z.controls
      → (is_free r && (nat_lt r 32 && not (r == 28))) ≡ true
      → PutsMask c r v
      (unless_unread (is_unread z.allocation c) (kept_code (control_location (layout_of z) c) r))
  mask_put c r v among ok = by_test (is_unread z.allocation c) refl
    where
      untouched : (env : StraightState) (s : machine.State) → HeldAt z s
          → (is_unread z.allocation c ≡ false → home_of z.allocation.homes (length z.laid + c) ≡ None
          → number_at s.bytes 4 (z.frame + control_offset z.laid c) ≡ Some (v env))
          → MaskPut c (v env) s s
      untouched env s held there = assumption

      by_test : (b : Bool) → is_unread z.allocation c ≡ b
          → PutsMask c r v (unless_unread b (kept_code (control_location (layout_of z) c) r))
      by_test true unread =
          idle (λ env s given. untouched env s given.0 (λ read away. absurd (true≢false (sym unread ∙ read))))
      by_test false read =
          let o = control_offset z.laid c in
          at_control z c (λ l. PutsMask c r v (kept_code l r))
          (λ home at.
          idle (λ env s given. untouched env s given.0 (λ is away. absurd (none-some home (sym away ∙ at)))))
          (λ away. weaken
          (λ env s fine given. given.0)
          (λ env s t fine given moved.
          let wrote : Wrote z 4 o (v env) s t = put_wrote z Sw r o (v env) env s t (given.2 read away) moved in
          record {
            held = moved.held;
            others = is_left s.regs 28 _ moved.regs;
            written = λ is out. wrote_there z o (v env) s t wrote given.1;
            apart = λ n x beside. other_number z 4 o (v env) n x s t wrote beside;
            lower = wrote_kept z 4 o (v env) s t wrote;
            hidden = λ depth. hidden_wrote z depth 4 o (v env) s t (omega arith) wrote;
          })
          (move_runs z (put Sw r o) (simp ok) (omega arith, omega arith)))

-- what is read is not in the register of a control value
pub read_beside : (z : Setting) (c : ℕ) {e : TermTree} {word : WordType}
    → TermHasType (types_of z.code.profile z.declared) e word → read_register z.allocation 5 e ≢ mask_register z c 7
read_beside z c {e = e} has =
    elim (cases_Option (home_of_term z.allocation e)) [
      | inl found ↦
          let home_is = home_there z has found.0 found.1 in
          rw found.1 (mask_beside z c 7 home_is.x found.0 (omega arith) (omega arith) home_is.at)
      | inr at ↦ rw at (λ f. mask_apart z c 7 5 (omega arith) (omega arith) (sym f))
    ]
