use Rattle.std.proofs.Common.{◌≡◌, length, None, Some, sym, ap, subst, ◌∙◌, arith, List, [], ◌∷◌, ◌++◌, append-nil}
use Rattle.std.proofs.Common.{append_assoc, Option, refl}
use Rattle.codegen.proofs.Machine.{Allocation, Instr}
use Rattle.codegen.specs.Below.{Ecall}
use Rattle.codegen.specs.private.Emitted.{assign_code, block_code}
use Rattle.codegen.specs.private.Fresh.{homes_but, starts_fresh}
use Rattle.codegen.specs.private.Generated.{entry_code, mirrors_code, result_code}
use Rattle.codegen.proofs.generator.program_code.Goals.{in-Some+in_ok-assign, in_default}
use Rattle.codegen.proofs.Language.{term_tree}
use Rattle.codegen.proofs.Logic.{option_map}
use Rattle.codegen.proofs.ImageLemmas.{result_among, body_placed, laid_length, room_frame}
use Rattle.codegen.proofs.Machine.{Frame, height_of, result_height, temporaries_offset}
use Rattle.expression_code.specs.TermCode.{IsAmong}
use Rattle.codegen.proofs.generator.program_code.Goals as goal

pub enter-requires : goal.enter-requires
enter-requires c =
    let p = c.args.straight.now in
    let a = c.args.layout.now.allocation in
    omega (
      arith,
      c.requires.fitting.within,
      laid_length a p,
      ap (λ (f : Frame). length f.declared) c.requires.frame,
      ap (λ (f : Frame). f.controls) c.requires.frame,
    )

pub statements-requires : goal.statements-requires
statements-requires c =
    record {
      placed = rw (c.requires.frame, c.body.ensures.body)
          (body_placed c.args.layout.now.allocation c.args.straight.now c.requires.room);
    }

pub assign-requires-clause-among : goal.assign-requires-clause-among
assign-requires-clause-among c =
    let p = c.args.straight.now in
    let e = term_tree c.in-Some.value.now in
    let is : p.value ≡ Some e = sym c.value.ensures ∙ ap (option_map (λ term. term_tree term.now)) c.in-Some.is in
    let a = c.args.layout.now.allocation in
    rw c.requires.frame
    (subst (λ n. IsAmong n e) (sym (laid_length a p))
    (result_among p.profile p.declared p.returned p.value c.requires.room.typed.result e is))

pub assign-requires-clause-room : goal.assign-requires-clause-room
assign-requires-clause-room c =
    let p = c.args.straight.now in
    let a = c.args.layout.now.allocation in
    let e = term_tree c.in-Some.value.now in
    let is : p.value ≡ Some e = sym c.value.ensures ∙ ap (option_map (λ term. term_tree term.now)) c.in-Some.is in
    let height : result_height p.value ≡ height_of e = ap result_height is in
    omega (arith, height, ap temporaries_offset c.requires.frame, room_frame a p c.requires.room)

-- the pieces one behind the other
joined : (entry body result : List Instr) {one two three four : List Instr} → one ≡ entry → two ≡ one ++ body
    → three ≡ two ++ result → four ≡ three ++ Ecall ∷ [] → four ≡ (entry ++ (body ++ result)) ++ Ecall ∷ []
joined entry body result first second third fourth =
    fourth
    ∙ ap (λ (l : List Instr). l ++ Ecall ∷ [])
    (third ∙ (ap (λ (l : List Instr). l ++ result) (second ∙ ap (λ (l : List Instr). l ++ body) first)
    ∙ append_assoc entry body result))

none_there : {A : Type 0} (o : Option A) → ((x : A) → o ≡ Some x → ⊥) → o ≡ None
none_there None denied = refl
none_there (Some x) denied = absurd (denied x refl)

pub returns-clause-code : goal.returns-clause-code
returns-clause-code c =
    let p = c.args.straight.now in
    let l = c.args.layout.now in
    let before = c.statements.new.code.items in
    let entry = entry_code l.declared 0 (homes_but (starts_fresh p) 0 l.allocation.homes) in
    let mirrors = λ (a : Allocation). mirrors_code (homes_but (starts_fresh p) 0 a.homes) 0 a.mirrors in
    let entered : c.enter_mirrors.new.code.items ≡ entry ++ mirrors l.allocation =
    c.in_ok-enter_mirrors.ensures
    ∙ (ap (λ (a : Allocation). c.enter.new.code.items ++ mirrors a) c.allocation.ensures
    ∙ ap (λ (code : List Instr). code ++ mirrors l.allocation)
    (c.in_ok-enter.ensures ∙ ap (λ (code : List Instr). code ++ entry) c.new-code.ensures.items)) in
    let all : c.end.new.code.items ≡ ((entry ++ mirrors l.allocation)
    ++ (block_code l 0 p.body ++ result_code l p.value)) ++ Ecall ∷ [] =
    joined (entry ++ mirrors l.allocation) (block_code l 0 p.body) (result_code l p.value) entered
    (c.in_ok-statements.ensures.code ∙ ap (λ b. c.enter_mirrors.new.code.items ++ block_code l 0 b)
    c.body.ensures.body)
    (elim c.match-value.branch [
      | in-Some+in_ok-assign w ↦
          ap (λ code. code.items) w.code-is ∙ (w.in_ok-assign.ensures
          ∙ (ap (λ o. before ++ assign_code l (term_tree w.in-Some.value.now) o) w.result.ensures.place
          ∙ ap (λ v. before ++ result_code l v) (sym (ap (option_map (λ term. term_tree term.now)) w.in-Some.is)
          ∙ c.value.ensures)))
      | in_default w ↦
          ap (λ code. code.items) w.code-is ∙ (sym (append-nil before)
          ∙ ap (λ v. before ++ result_code l v) (sym (ap (option_map (λ term. term_tree term.now))
          (none_there c.value.result w.in_default.not-Some)) ∙ c.value.ensures))
    ])
    c.in_ok-end.ensures in
    all ∙ ap (λ (f : Frame). ((entry_code f.declared 0 (homes_but (starts_fresh p) 0 l.allocation.homes)
    ++ mirrors l.allocation) ++ (block_code f 0 p.body ++ result_code f p.value)) ++ Ecall ∷ []) c.requires.frame
