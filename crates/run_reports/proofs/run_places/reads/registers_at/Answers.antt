use Rattle.std.proofs.Common.{◌≡◌, ◌++◌, List, ℕ, ap, refl, sym, ◌∙◌, subst}
use Rattle.run_reports.specs.Below.{IsAt, regs_of, state_of}
use Rattle.run_reports.specs.run_places.Reads.{registers_read, registers_text, SaysRegisters, read, nothing_read}
use Rattle.run_reports.proofs.run_places.reads.registers_at.Goals as goal

pub returns-in_ok-push_read-in-Some : goal.returns-in_ok-push_read-in-Some
returns-in_ok-push_read-in-Some c =
    let code = c.args.code.now in
    let i = c.in-Some.instr.now in
    let regs = regs_of c.args.hart.now in
    let items : c.push_read.new.text.items ≡ registers_text regs (registers_read i) =
    c.in_ok-push_read-in-Some.ensures
    ∙ ap (λ (l : List ℕ). l ++ registers_text regs (registers_read i)) c.new-text.ensures.items in
    λ bytes. subst (λ (l : List ℕ). SaysRegisters code (state_of c.args.hart.now bytes) l) (sym items)
    (read i (subst (λ (p : ℕ). IsAt code p i) c.pc.ensures c.in-Some.ensures.there))

pub returns-in-None : goal.returns-in-None
returns-in-None c =
    let code = c.args.code.now in
    λ bytes. subst (λ (l : List ℕ). SaysRegisters code (state_of c.args.hart.now bytes) l)
    (sym c.new-text.ensures.items)
    (nothing_read (λ i at. c.in-None.ensures.none refl i (subst (λ (p : ℕ). IsAt code p i) (sym c.pc.ensures) at)))
