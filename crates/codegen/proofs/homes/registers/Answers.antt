use Rattle.std.proofs.Common.{◌≡◌, ℕ, suc, ◌+◌, ◌-◌, ◌<◌, ◌++◌, Bool, List, [], ◌∷◌, Option, length, ap, ap₂, ◌∙◌}
use Rattle.std.proofs.Common.{arith, append_assoc}
use Rattle.codegen.proofs.Language.{FlatVariable}
use Rattle.codegen.specs.private.Homes.{all_weights_of, home_after, home_at, homes_from, is_wanted}
use Rattle.codegen.proofs.homes.registers.Goals as goal

-- one more register
one_more : (start : ℕ) (wanted : ℕ → Bool) (count number next after : ℕ) (old new : List (Option ℕ)) (here : Bool)
    → number < count → here ≡ wanted number → new ≡ old ++ home_at start here next ∷ [] → after ≡ home_after here next
    → new ++ homes_from start wanted (number + 1) after (count - (number + 1))
    ≡ old ++ homes_from start wanted number next (count - number)
one_more start wanted count number next after old new here less is pushed moved =
    let more : count - number ≡ suc (count - (number + 1)) = omega (arith, less) in
    rw (pushed, moved, is, more, append_assoc)

pub loop-number-preserved : goal.loop-number-preserved
loop-number-preserved c =
    let p = c.args.straight.now in
    let l = c.loop-number in
    let weights = all_weights_of p in
    let wanted = is_wanted c.args.first p.declared weights in
    let listed : c.as_slice-in-loop-number.result.now ≡ weights =
    c.as_slice-in-loop-number.ensures.value ∙ c.in_ok-weights.ensures in
    let is : c.is_wanted-wanted.result ≡ wanted l.number =
    c.is_wanted-wanted.ensures
    ∙ ap₂ (λ (declared : List FlatVariable) (ws : List ℕ). is_wanted c.args.first declared ws l.number)
    c.declared-declared.ensures listed in
    let less : l.number < length weights =
    omega (
      arith,
      c.loop-number-test.true,
      c.len-number-end.ensures,
      c.as_slice-in-loop-number.ensures.len,
      ap (λ (ws : List ℕ). length ws) listed,
    ) in
    record {
      made =
          one_more c.args.first wanted (length weights) l.number l.next c.home_after-next.result l.registers.items
          c.push.new.self.items c.is_wanted-wanted.result less is
          (c.in_ok-push.ensures.items ∙ ap (λ (h : Option ℕ). l.registers.items ++ h ∷ []) c.home_at.ensures)
          c.home_after-next.ensures.value
          ∙ l.invariant.made;
      least = omega (arith, l.invariant.least, c.home_after-next.ensures.least);
      few = c.home_after-next.ensures.few;
      weights = c.in_ok-weights.ensures;
      left = l.invariant.left;
      declared = c.declared-declared.ensures;
    }
