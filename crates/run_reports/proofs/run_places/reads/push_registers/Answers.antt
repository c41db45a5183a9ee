use Rattle.std.proofs.Common.{◌≡◌, ◌∙◌, ◌+◌, ◌++◌, ◌∷◌, List, ℕ, ap, append_assoc, drop, sym}
use Rattle.std.proofs.lemmas.List.{drop_more}
use Rattle.run_reports.specs.Below.{regs_of}
use Rattle.run_reports.specs.run_places.Reads.{register_text, registers_text}
use Rattle.run_reports.proofs.run_places.reads.push_registers.Goals as goal

pub loop-register-preserved : goal.loop-register-preserved
loop-register-preserved c =
    let regs = regs_of c.args.hart.now in
    let registers = c.args.registers.now in
    let i = c.loop-register.register-index in
    let register = c.register-item.result in
    let before = c.loop-register.text.items in
    let left = drop (i + 1) registers in
    let next : drop i registers ≡ register ∷ left =
    drop_more registers i register c.loop-register-test.true ∙ ap (λ r. r ∷ left) (sym c.register-item.is) in
    ap (λ (text : List ℕ). text ++ registers_text regs left) c.in_ok-push_register.ensures
    ∙ append_assoc before (register_text regs register) (registers_text regs left)
    ∙ sym (ap (λ (some : List ℕ). before ++ registers_text regs some) next)
    ∙ c.loop-register.invariant
