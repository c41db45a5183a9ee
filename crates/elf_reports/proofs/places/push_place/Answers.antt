use Rattle.std.proofs.Common.{◌≡◌, ◌∙◌, ◌++◌, ℕ, List, ap, append_assoc, codes, sym}
use Rattle.std.proofs.lemmas.List.{drop_more}
use Rattle.elf_reports.specs.Places.{callers_text}
use Rattle.elf_reports.proofs.places.push_place.Goals as goal

-- one call more
call_more : (before called text address new rest whole : List ℕ) → text ≡ before ++ called → new ≡ text ++ address
    → before ++ (called ++ address ++ rest) ≡ whole → new ++ rest ≡ whole
call_more before called text address new rest whole is are all =
    ap (λ t. t ++ rest) (are ∙ ap (λ t. t ++ address) is)
    ∙ append_assoc (before ++ called) address rest
    ∙ append_assoc before called (address ++ rest)
    ∙ ap (λ t. before ++ t) (sym (append_assoc called address rest))
    ∙ all

pub calls-preserved : goal.calls-preserved
calls-preserved c =
    let program = c.args.program.now in
    let left = ap (callers_text program) (drop_more c.args.calls.now c.calls.call-index 0 c.calls-test.true) in
    call_more c.calls.text.items (codes ", called from ") c.extend_from_slice-in-calls.new.self.items _
    c.push_address-in-calls.new.text.items _ _ c.in_ok-extend_from_slice-2.ensures.items c.in_ok-push_address-2.ensures
    (ap (λ t. c.calls.text.items ++ t) (sym left) ∙ c.calls.invariant)
