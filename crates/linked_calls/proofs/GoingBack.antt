-- The last instruction of a function, which goes back to the caller.
use Rattle.std.proofs.Common.{◌≡◌, ℕ, ◌+◌, ◌%◌, ◌^◌, ◌<◌, Bool, true, false, cond, nat_eq, None, refl, ap, ◌∙◌, arith}
use Rattle.std.proofs.Math.Path.{fun_ext}
use Rattle.linked_calls.proofs.Below.{MachineCode, goes_on, IsAt, jump_done, JumpRegister, moved_to, near_address, next}
use Rattle.linked_calls.proofs.Below.{observed, register_target, sign_extended, State, sum_of, Step, step_of}
use Rattle.linked_calls.proofs.Below.{with_link, with_link_after}

either : (b : Bool) (v x : ℕ) → cond b x (cond b v x) ≡ x
either true v x = refl
either false v x = refl

-- a link that is put into x0 is none
link_dropped : (s : State) (target : ℕ) → with_link s 0 target ≡ moved_to s target
unfolding with_link_after moved_to
link_dropped s target =
    ap (λ (regs : ℕ → ℕ). record { pc = target; regs = regs; bytes = s.bytes })
    (fun_ext (λ r. either (nat_eq r 0) (next s) (s.regs r)))

target_is : (regs : ℕ → ℕ) (target : ℕ) → regs 1 ≡ target → target < 2 ^ 32 → target % 4 ≡ 0
    → register_target regs 1 0 ≡ target
target_is regs target is below even =
    let e : sum_of (regs 1) (sign_extended 12 0) ≡ regs 1 + 0 = near_address (regs 1) 0 (omega arith)
    (omega arith) in
    omega arith

pub goes_back : (code : MachineCode) (s : State) (target : ℕ) → IsAt code s.pc (JumpRegister 0 1 0) → s.regs 1 ≡ target
    → target < 2 ^ 32 → target % 4 ≡ 0
    → Step code s (goes_on (observed s None) (moved_to s target))
goes_back code s target is link below even =
    let there = target_is s.regs target link below even in
    step_of code s (JumpRegister 0 1 0) (goes_on (observed s None) (moved_to s target)) is
    (jump_done code.profile (register_target s.regs 1 0) s 0 (ap (λ x. x % 4) there ∙ even)
    ∙ ap (λ (t : State). goes_on (observed s None) t)
    (link_dropped s (register_target s.regs 1 0) ∙ ap (λ x. moved_to s x) there))
