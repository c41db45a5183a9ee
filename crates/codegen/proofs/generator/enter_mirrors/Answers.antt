use Rattle.std.proofs.Common.{◌≡◌, ℕ, ◌+◌, ◌<◌, ◌++◌, Bool, true, false, List, [], Option, None, Some, get_or, length}
use Rattle.std.proofs.Common.{append_assoc, append-nil, drop, refl, sym, ap, subst, ◌∙◌, Vec, Global, if◌then◌else◌}
use Rattle.std.proofs.lemmas.List.{drop_more}
use Rattle.codegen.proofs.HomesBut.{homes_left}
use Rattle.codegen.proofs.Machine.{home_of, Instr}
use Rattle.expression_code.specs.declared.allocation.Mirror.{Mirror}
use Rattle.expression_code.specs.TermCode.{mirror_by}
use Rattle.codegen.specs.private.Fresh.{homes_but, starts_fresh}
use Rattle.codegen.specs.private.Generated.{mirrors_code}
use Rattle.codegen.proofs.generator.enter_mirrors.Goals as goal
use Rattle.codegen.proofs.generator.enter_mirrors.Goals.{then-not-starts_fresh+in_ok-mirror, else-not-starts_fresh}

-- one more mirror
one_more : (homes : List (Option ℕ)) (mirrors : List (Option Mirror)) (x : ℕ) (mirror : Option Mirror)
    (old new whole : List Instr) → x < length mirrors → mirror ≡ get_or mirrors x mirror
    → new ≡ old ++ mirror_by (home_of homes x) mirror → old ++ mirrors_code homes x (drop x mirrors) ≡ whole
    → new ++ mirrors_code homes (x + 1) (drop (x + 1) mirrors) ≡ whole
one_more homes mirrors x mirror old new whole less is pushed all =
    let before : old ++ (mirror_by (home_of homes x) mirror ++ mirrors_code homes (x + 1) (drop (x + 1) mirrors))
    ≡ whole =
    (rw (drop_more mirrors x mirror less, ← is) at all) in
    rw (pushed, append_assoc) before

-- without a home there is nothing to follow
no_home : (mirror : Option Mirror) → [] ≡ mirror_by None mirror
no_home None = refl
no_home (Some mirror) = refl

pub loop-number-preserved : goal.loop-number-preserved
loop-number-preserved c =
    let p = c.args.straight.now in
    let homes = c.args.allocation.now.homes in
    let left = homes_but (starts_fresh p) 0 homes in
    let x = c.loop-number.number in
    let old = c.loop-number.code.items in
    let mirrors = c.args.allocation.now.mirrors in
    let mirror = c.mirror-item.result in
    let listed = c.mirrors-mirror-items.ensures in
    let less : x < length mirrors =
    subst (λ (ms : List (Option Mirror)). x < length ms) listed c.loop-number-test.true in
    let is : mirror ≡ get_or mirrors x mirror =
    subst (λ (ms : List (Option Mirror)). mirror ≡ get_or ms x mirror) listed c.mirror-item.is in
    let from = one_more left mirrors x mirror old c.if-not-starts_fresh.code.items _ less is in
    let home : (fresh : Bool) → starts_fresh p x ≡ fresh → (if fresh then None else home_of homes x) ≡ home_of left x =
    λ fresh so. sym (homes_left (starts_fresh p) homes x
    ∙ ap (λ b. if b then None else home_of homes x) so) in
    elim c.if-not-starts_fresh.branch [
      | then-not-starts_fresh+in_ok-mirror w ↦
          from
          (ap (λ (v : Vec Instr Global). v.items) w.code-is
          ∙ w.in_ok-mirror.ensures
          ∙ ap (λ (h : Option ℕ). old ++ mirror_by h mirror) (w.home_of.ensures
          ∙ ap (λ (hs : List (Option ℕ)). home_of hs x) w.homes.ensures
          ∙ home false (sym c.starts_fresh.ensures ∙ w.if-not-starts_fresh.true)))
          c.loop-number.invariant
      | else-not-starts_fresh w ↦
          from
          (ap (λ (v : Vec Instr Global). v.items) w.code-is
          ∙ sym (append-nil old)
          ∙ ap (λ (code : List Instr). old ++ code) (no_home mirror)
          ∙ ap (λ (h : Option ℕ). old ++ mirror_by h mirror)
          (home true (sym c.starts_fresh.ensures ∙ w.if-not-starts_fresh.false)))
          c.loop-number.invariant
    ]
