-- The code by which a mirror follows its variable, and what is shown once a word with a home is set and its mirror has
-- followed it.
use Rattle.std.proofs.Common.{◌≡◌, ◌≢◌, ℕ, ◌*◌, ◌^◌, ◌<◌, [], ◌∷◌, ◌≤◌, length, List, Option, None, Some, slice_get, refl}
use Rattle.std.proofs.Common.{sym, ap, ◌∙◌, arith, subst, Bool}
use Rattle.expression_code.proofs.Below.{scale_code}
use Rattle.expression_code.proofs.Elements.{pair, scaled}
use Rattle.expression_code.proofs.OperatorCode.{either_of, kept_beside, low_beside}
use Rattle.expression_code.proofs.Values.{mirror_register}
use Rattle.codegen.proofs.HomeWords.{laid_so, ready_at_home}
use Rattle.codegen.proofs.Language.{bits_of, element_bytes, StraightState, with_variable, word_as, WordType}
use Rattle.codegen.proofs.Logic.{base_of, cheaper, computing_within, free_from, Held, HeldAt, idle, IsHome, Kept}
use Rattle.codegen.proofs.Logic.{kept_by, kept_then, none, none-some, Ready, Runs, same_Some, Setting, weaken}
use Rattle.codegen.proofs.Machine.{home_of, Instr, Mirror, mirror_by, mirror_code, mirror_of, sum_of}
use Rattle.codegen.specs.Below.{Boolean, Kind, Uint16, Uint32, Uint8}
use Rattle.rv_machine.specs.Machine as machine

scale_length : (d r : ℕ) (kind : Kind) → length (scale_code d r kind) ≤ 2
scale_length d r Boolean = omega arith
scale_length d r Uint8 = omega arith
scale_length d r Uint16 = omega arith
scale_length d r Uint32 = omega arith

-- so long is the code for a mirror
pub mirror_length : (h : Option ℕ) (m : Option Mirror) → length (mirror_by h m) ≤ 2
mirror_length None m = omega arith
mirror_length (Some home) None = omega arith
mirror_length (Some home) (Some mirror) = scale_length mirror.register home mirror.kind

-- the mirror of a variable follows it, and nothing else changes but the register for addresses
pub record Mirrored (z : Setting) (x : ℕ) (s t : machine.State) : Type 0 where
  pub held : HeldAt z t
  pub same : t.bytes ≡ s.bytes
  pub there : (home : ℕ) (mirror : Mirror) → mirror_of z.allocation x ≡ Some mirror
      → home_of z.allocation.homes x ≡ Some home
      → t.regs mirror.register ≡ sum_of (element_bytes mirror.kind * s.regs home) z.frame
  pub others : (r : ℕ) → r ≢ 28 → ((mirror : Mirror) → mirror_of z.allocation x ≡ Some mirror → r ≢ mirror.register)
      → t.regs r ≡ s.regs r

module _ (z : Setting) (x : ℕ) where
  abbrev Follows : List Instr → Type 0
  Follows code = Runs z 2 none code (Held z) (λ env s t. Mirrored z x s t)

  -- where there is none, there is no code
  nothing : ((home : ℕ) (mirror : Mirror) → mirror_of z.allocation x ≡ Some mirror
      → home_of z.allocation.homes x ≡ Some home → ⊥) → Follows []
  nothing away =
      cheaper {m = 0} (omega arith)
      (idle (λ env s held. record {
        held = held;
        same = refl;
        there = λ home mirror is at. absurd (away home mirror is at);
        others = λ r apart beside. refl;
      }))

  one : (home : ℕ) (mirror : Mirror) → mirror_of z.allocation x ≡ Some mirror
      → home_of z.allocation.homes x ≡ Some home → Follows (scale_code mirror.register home mirror.kind)
  one home mirror is at =
      let low = mirror_register z x mirror is in
      let there = z.allocated.allowed x home at in
      let target = free_from mirror.register (omega (arith, low.0)) (omega (arith, low.1)) in
      let source = free_from home (omega (arith, there.0)) (omega (arith, there.1)) in
      let apart : mirror.register ≢ 28 = λ e. omega (arith, low.1, e) in
      let both = pair z mirror.register home target source apart in
      let code = scale_code mirror.register home mirror.kind in
      let makes = scaled z mirror.register home target source apart mirror.kind in
      cheaper (scale_length mirror.register home mirror.kind)
      (weaken
      (λ env s fine held. held)
      (λ env s t fine held done. record {
        held = done.held;
        same = done.same;
        there = λ home' mirror' is' at'.
            let made : t.regs mirror.register ≡ sum_of (element_bytes mirror.kind * s.regs home) z.frame =
            ap (λ (regs : ℕ → ℕ). regs mirror.register) done.registers
            ∙ (makes.1 s.regs ∙ ap (sum_of (element_bytes mirror.kind * s.regs home)) held.base) in
            subst (λ (m : Mirror). t.regs m.register ≡ sum_of (element_bytes m.kind * s.regs home') z.frame)
            (same_Some mirror mirror' (sym is ∙ is'))
            (subst (λ h. t.regs mirror.register ≡ sum_of (element_bytes mirror.kind * s.regs h) z.frame)
            (same_Some home home' (sym at ∙ at')) made);
        others = λ r address beside. ap (λ (regs : ℕ → ℕ). regs r) done.registers
            ∙ kept_beside both code makes.0 s.regs r (beside mirror is) address;
      })
      (computing_within z (either_of mirror.register 28) code makes.0 (low_beside both)))

  pub mirror_runs : Follows (mirror_code z.allocation x)
  mirror_runs = by_parts (home_of z.allocation.homes x) (mirror_of z.allocation x) refl refl
    where
      by_parts : (h : Option ℕ) (m : Option Mirror) → home_of z.allocation.homes x ≡ h → mirror_of z.allocation x ≡ m
          → Follows (mirror_by h m)
      by_parts None m at is = nothing (λ home mirror is' at'. none-some home (sym at ∙ at'))
      by_parts (Some home) None at is = nothing (λ home mirror is' at'. none-some mirror (sym is ∙ is'))
      by_parts (Some home) (Some mirror) at is = one home mirror is at

-- A word is set that has a home, and then its mirror follows it.
pub ready_mirrored : (z : Setting) (x home v : ℕ) (word : WordType) (mutable : Bool)
    → slice_get z.declared x ≡ Some (word_as word mutable) → home_of z.allocation.homes x ≡ Some home
    → v < 2 ^ bits_of word.kind → (env : StraightState) (s m t : machine.State) → Ready z env s
    → Kept z (base_of z) s m → m.regs home ≡ v
    → ((r : ℕ) → IsHome z.allocation.count r → r ≢ home → m.regs r ≡ s.regs r) → Mirrored z x m t
    → Ready z (with_variable env x (v ∷ [])) t
ready_mirrored z x home v word mutable known at fits env s m t ready kept there others done =
    let is = z.allocated.allowed x home at in
    ready_at_home z z.declared z.allocation (laid_so z) refl refl x home v word mutable known at (λ y apart. refl)
    (λ y apart. refl) fits env s t ready done.held
    (kept_then z (base_of z) s m t kept (kept_by z (base_of z) m t done.same))
    (done.others home (λ e. omega (arith, is.1, e)) (λ mirror mirrored. z.allocated.mirror_apart x x home mirror mirrored at)
    ∙ there)
    (λ mirror mirrored. done.there home mirror mirrored at
    ∙ ap (λ w. sum_of (element_bytes mirror.kind * w) z.frame) there)
    (λ r low apart beside. done.others r (λ e. omega (arith, low.1, e)) beside ∙ others r low apart)
