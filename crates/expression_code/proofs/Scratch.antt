-- The registers that statements work on, and code that writes no others: no home changes.
use Rattle.std.proofs.Common.{◌≡◌, ◌≢◌, ℕ, ◌<◌, ◌≤◌, ◌&&◌, ◌||◌, Bool, true, false, nat_lt, List, [], ◌∷◌, refl, ap}
use Rattle.std.proofs.Common.{◌∙◌, arith}
use Rattle.expression_code.proofs.Below.{both_left, both_right, Contents, contents_of, Instr, nat_tests}
use Rattle.expression_code.proofs.Below.{only_computes, register_left, registers_after, State}
use Rattle.expression_code.proofs.Below.{StraightState}
use Rattle.expression_code.proofs.Frame.{Setting}
use Rattle.expression_code.proofs.Moves.{Move, take, put, does, moved, all_moved, Moved, unwritten}
use Rattle.expression_code.proofs.Values.{HomesKept}
use Rattle.expression_code.proofs.WorkRegisters.{IsHome, not_written}

-- the first three temporaries, and the spare ones
abbrev pub is_scratch : ℕ → Bool
is_scratch q = (nat_lt 4 q && nat_lt q 8) || nat_lt 27 q

pub scratch_low : (q : ℕ) → q < 5 → is_scratch q ≡ false
scratch_low q low = grind (arith, nat_tests)

pub scratch_home : (z : Setting) (r : ℕ) → IsHome z.allocation.count r → is_scratch r ≡ false
scratch_home z r home =
    let low : 8 ≤ r = omega arith in
    let high : r < 28 = home.1 in
    grind (arith, nat_tests)

abbrev pub are_scratch : List Move → Bool
are_scratch [] = true
are_scratch (take r o ∷ ms) = is_scratch r && are_scratch ms
are_scratch (put operation r o ∷ ms) = are_scratch ms
are_scratch (does is ∷ ms) = only_computes is_scratch is && are_scratch ms

pub moves_leave : (z : Setting) (ms : List Move) → are_scratch ms ≡ true → (c : Contents) (q : ℕ)
    → is_scratch q ≡ false → (all_moved z ms c).regs q ≡ c.regs q
moves_leave z [] ok c q away = refl
moves_leave z (take r o ∷ ms) ok c q away =
    moves_leave z ms (both_right (is_scratch r) (are_scratch ms) ok) (moved z (take r o) c) q away
    ∙ unwritten c.regs r _ q (not_written is_scratch q r away (both_left (is_scratch r) (are_scratch ms) ok))
moves_leave z (put operation r o ∷ ms) ok c q away =
    moves_leave z ms ok (moved z (put operation r o) c) q away
    ∙ unwritten c.regs 28 _ q (not_written is_scratch q 28 away refl)
moves_leave z (does is ∷ ms) ok c q away =
    moves_leave z ms (both_right (only_computes is_scratch is) (are_scratch ms) ok) (moved z (does is) c) q away
    ∙ register_left is_scratch is c.regs q (both_left (only_computes is_scratch is) (are_scratch ms) ok) away

-- so homes stay
pub homes_moved : (z : Setting) (ms : List Move) (env : StraightState) (s t : State) → are_scratch ms ≡ true
    → Moved z ms env s t → HomesKept z s t
homes_moved z ms env s t ok moved r home = ap (λ (regs : ℕ → ℕ). regs r) moved.regs
    ∙ moves_leave z ms ok (contents_of s) r (scratch_home z r home)

pub homes_computed : (z : Setting) (is : List Instr) (s t : State) → only_computes is_scratch is ≡ true
    → t.regs ≡ registers_after is s.regs → HomesKept z s t
homes_computed z is s t ok made r home = ap (λ (regs : ℕ → ℕ). regs r) made
    ∙ register_left is_scratch is s.regs r ok (scratch_home z r home)

-- where only one register has changed, or that and the address register
pub homes_beside : (z : Setting) (d : ℕ) (s t : State) → is_scratch d ≡ true
    → ((q : ℕ) → q ≢ d → q ≢ 28 → t.regs q ≡ s.regs q) → HomesKept z s t
homes_beside z d s t ok others r home =
    let away = scratch_home z r home in
    others r (not_written is_scratch r d away ok) (not_written is_scratch r 28 away refl)
