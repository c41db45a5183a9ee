-- The call of the copier for an array.
use Rattle.std.proofs.Common.{◌≡◌, ℕ, ◌+◌, ◌-◌, ◌*◌, ◌/◌, ◌%◌, List, ◌∷◌, ◌++◌, length, ap, ap₂, ◌∙◌, arith, append_assoc}
use Rattle.functions.specs.Below.{bound_code, call_code, called_code, copied_out_code, element_bytes, elements_code}
use Rattle.functions.specs.Below.{in_round, Instr, Kind}
use Rattle.language.specs.declared.signature.Kind.TheVariants.{Boolean}
use Rattle.linked_calls.specs.declared.round.Round.{Round}
use Rattle.linked_calls.specs.declared.round.Round.TheVariants.{Four, One, Two}

-- what whole rounds copy
pub rounds_are : (round : Round) (kind : Kind) (count : ℕ)
    → count - count % in_round round kind ≡ in_round round kind * (count / in_round round kind)
rounds_are One Boolean count = omega arith
rounds_are One kind count = omega arith
rounds_are Two Boolean count = omega arith
rounds_are Two kind count = omega arith
rounds_are Four Boolean count = omega arith
rounds_are Four kind count = omega arith

pub called_is : (round : Round) (behind : ℕ) (kind : Kind) (count : ℕ) (old bounded slice : List Instr) (bytes each : ℕ)
    → bounded ≡ old ++ bound_code (bytes * (count - count % each))
    → slice ≡ elements_code (copied_out_code kind) (element_bytes kind) 0 (count % each)
    → bytes ≡ element_bytes kind → each ≡ in_round round kind
    → bounded ++ call_code (length slice + behind) ∷ slice ≡ old ++ called_code round behind kind count
called_is round behind kind count old bounded slice bytes each bounded_is slice_is bytes_is each_is =
    let rest = elements_code (copied_out_code kind) (element_bytes kind) 0 (count % in_round round kind) in
    let bound = bound_code (element_bytes kind * (in_round round kind * (count / in_round round kind))) in
    let far : bytes * (count - count % each) ≡ element_bytes kind * (in_round round kind * (count / in_round round kind)) =
    ap₂ (λ (b n : ℕ). b * (count - count % n)) bytes_is each_is
    ∙ ap (λ (n : ℕ). element_bytes kind * n) (rounds_are round kind count) in
    let few : slice ≡ rest =
    slice_is ∙ ap (λ (n : ℕ). elements_code (copied_out_code kind) (element_bytes kind) 0 (count % n)) each_is in
    ap₂ (λ (one other : List Instr). one ++ call_code (length other + behind) ∷ other)
    (bounded_is ∙ ap (λ (n : ℕ). old ++ bound_code n) far) few
    ∙ append_assoc old bound (call_code (length rest + behind) ∷ rest)
