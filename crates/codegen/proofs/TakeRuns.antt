-- The code that takes a condition.
use Rattle.std.proofs.Common.{◌≡◌, ℕ, ◌+◌, ◌*◌, ◌<◌, ◌≤◌, ◌==◌, ◌≢◌, nat_lt, Bool, true, false, not, ◌&&◌}
use Rattle.std.proofs.Common.{if◌then◌else◌, List, [], ◌∷◌, ◌++◌, Option, None, Some, length, refl, sym, ap, ap₂, ◌∙◌}
use Rattle.std.proofs.Common.{arith, bit_and, append_assoc, cond}
use Rattle.codegen.proofs.Logic.{lt-ltb, value_fits, steps_of, mask_of, mask_when, mask_otherwise, masks_join, Setting}
use Rattle.codegen.proofs.Logic.{layout_of}
use Rattle.codegen.proofs.Logic.{base_of, Runs, gives, cheaper, as_code, Ready, eqb-true, eqb-false, IsHome, is_free}
use Rattle.codegen.proofs.Logic.{kept_by, at_control, HeldAt, Kept, kept_then, mask_fits, quiet, ready_after, Held}
use Rattle.codegen.proofs.Logic.{free_from, none, idle}
use Rattle.codegen.proofs.CountingRuns.{one_computed}
use Rattle.codegen.proofs.Language.{TermTree, value_in, term_nodes, types_of, TermHasType, StraightState, holds, after}
use Rattle.codegen.proofs.Language.{IsAmong, Boolean, Label, labelled, nodes_work}
use Rattle.branch_removal.specs.Straight as straight
use Rattle.codegen.proofs.Machine.{at_home, home_of, InSlot, Instr, masks_code}
use Rattle.codegen.proofs.Machine.{IsKeptWithin, is_unread, register_of, taken_code, unless_unread, statement_code}
use Rattle.codegen.proofs.Machine.{read_code, read_register, control_offset, slots_to, height_of, And, sum_of}
use Rattle.codegen.proofs.Machine.{difference_of, Addi, Sub}
use Rattle.rv_code.specs.declared.instructions.Instr.TheVariants as instr
use Rattle.rv_machine.specs.Machine as machine
use Rattle.std.proofs.lemmas.Bool.{true≢false}
use Rattle.codegen.proofs.Slots.{StateShown, read_runs, read_source, hidden_then, hidden_kept, IsSourceRegister}
use Rattle.codegen.proofs.Slots.{source_apart}
use Rattle.codegen.proofs.Masks.{mask_apart, mask_register, mask_runs, mask_free, home_apart, read_beside, mask_put}
use Rattle.codegen.proofs.Masks.{ready_taken, mask_beside}
use Rattle.expression_code.proofs.program_logic_lemmas.Computing.{computed_value, computes, written_register}
use Rattle.expression_code.proofs.WorkRegisters.{IsFree}
use Rattle.expression_code.proofs.Moves.{register-at}
use Rattle.codegen.specs.Below.{register}

-- Two instructions that compute, each unless nothing reads what it writes.
module _ (z : Setting) where
  -- what they leave
  record Both (x y : Bool) (i j : Instr) (s t : machine.State) : Type 0 where
    held : HeldAt z t
    same : t.bytes ≡ s.bytes
    others : (q : ℕ) → q ≢ written_register i → q ≢ written_register j → t.regs q ≡ s.regs q
    first : x ≡ false → t.regs (written_register i) ≡ computed_value i s.regs
    second : y ≡ false → t.regs (written_register j) ≡ computed_value j s.regs

  one_runs : (x : Bool) (i : Instr) → computes is_free i ≡ true → written_register i ≢ 0
      → Runs z 1 none (unless_unread x (i ∷ [])) (Held z)
      (λ env s t. HeldAt z t × (t.bytes ≡ s.bytes) × ((q : ℕ) → q ≢ written_register i → t.regs q ≡ s.regs q)
      × (x ≡ false → t.regs (written_register i) ≡ computed_value i s.regs))
  one_runs true i plain some =
      idle (λ env s held. (held, refl, λ q other. refl, λ read. absurd (true≢false read)))
  one_runs false i plain some =
      gives
      (λ env s t fine held done. (done.held, done.same, done.others, λ read. done.there))
      (one_computed z i plain some)

  -- the second does not read what the first writes
  both_run : (x y : Bool) (i j : Instr) → computes is_free i ≡ true → computes is_free j ≡ true
      → written_register i ≢ 0 → written_register j ≢ 0 → written_register i ≢ written_register j
      → ((regs after : ℕ → ℕ) → ((q : ℕ) → q ≢ written_register i → register after q ≡ register regs q)
      → computed_value j after ≡ computed_value j regs)
      → Runs z 2 none (unless_unread x (i ∷ []) ++ unless_unread y (j ∷ [])) (Held z) (λ env s t. Both x y i j s t)
  both_run x y i j plain plain' some some' apart unmoved =
      gives
      (λ env s t fine held done. record {
        held = done.second.0;
        same = done.second.1 ∙ done.first.1;
        others = λ q one other. done.second.2 q other ∙ done.first.2 q one;
        first = λ read. done.second.2 (written_register i) apart ∙ done.first.3 read;
        second = λ read. done.second.3 read ∙ unmoved s.regs done.middle.regs
            (λ q other. ap (λ v. cond (q == 0) 0 v) (done.first.2 q other));
      })
      (quiet (one_runs x i plain some) (one_runs y j plain' some') (λ env s t held done. done.0))

module _ (z : Setting) where
  -- A condition is taken: f is when it is true and g when it is not, each where the enclosing control value is true.

  module _ (depth c : ℕ) (within : Option ℕ) (condition : TermTree) (label : Label) (below : c + 1 < z.controls)
      (has : TermHasType (types_of z.code.profile z.declared) condition (labelled Boolean label))
      (room : base_of z + 4 * slots_to z.allocation.count (height_of condition) ≤ z.size)
      (inside : depth ≤ z.depths) where
    abbrev f : StraightState → Bool
    f env = not (value_in env.variables condition == 0)

    abbrev g : StraightState → Bool
    g env = value_in env.variables condition == 0

    abbrev r : ℕ
    r = read_register z.allocation 5 condition

    source : IsSourceRegister z 5 r
    source = read_source z condition 5 (omega arith) (omega arith)

    abbrev tested : List Instr
    tested = read_code (layout_of z) 5 0 condition

    -- where the masks of both come into: their homes, or two of the first temporaries
    abbrev a : ℕ
    a = mask_register z c 7

    abbrev b : ℕ
    b = mask_register z (c + 1) 5

    a_free : IsFree a
    a_free = mask_free z c 7 (omega arith) (omega arith)

    b_free : IsFree b
    b_free = mask_free z (c + 1) 5 (omega arith) (omega arith)

    a_beside : a ≢ b
    a_beside = at_control z (c + 1) (λ l. a ≢ register_of l 5)
        (λ home at e. mask_beside z c 7 (length z.laid + (c + 1)) home (omega arith) (λ e. omega (arith, e)) at
        (sym e))
        (λ away. mask_apart z c 7 5 (omega arith) (λ e. omega (arith, e)))

    -- whether nothing reads them
    abbrev unread : Bool
    unread = is_unread z.allocation c

    abbrev unread' : Bool
    unread' = is_unread z.allocation (c + 1)

    -- the masks of both that are read are in these registers, and nothing is written but temporaries and these
    record MasksIn (d e : ℕ) (enclosing : Option ℕ) (env : StraightState) (s t : machine.State) : Type 0 where
      held : HeldAt z t
      kept : Kept z (base_of z) s t
      homes : (q : ℕ) → IsHome z.allocation.count q → q ≢ d → q ≢ e → t.regs q ≡ s.regs q
      when : unread ≡ false → t.regs d ≡ mask_of (holds env enclosing && f env)
      otherwise : unread' ≡ false → t.regs e ≡ mask_of (holds env enclosing && g env)

    -- in any two registers but that of the condition
    masks_in : (d e : ℕ) → IsFree d → IsFree e → d ≢ e → r ≢ d
        → Runs z (16 * term_nodes condition + 2) (steps_of condition) (tested ++ masks_code unread unread' d e r)
        (Ready z) (MasksIn d e None)
    masks_in d e d_free e_free apart beside =
        let few : nat_lt r 32 ≡ true = lt-ltb r 32 (omega (arith, source.high)) in
        gives
        (λ env s t fine ready done.
        let m = done.middle in
        let v = value_in env.variables condition in
        let truth = value_fits (types_of z.code.profile z.declared) env.variables ready.fits has in
        let there : register m.regs r ≡ v =
        register-at m.regs r (λ h. omega (arith, source.low, h)) ∙ done.first.there in
        record {
          held = done.second.held;
          kept = kept_then z (base_of z) s m t done.first.kept (kept_by z (base_of z) m t done.second.same);
          homes = λ q home one other. done.second.others q one other ∙ done.first.homes q home;
          when = λ read. done.second.first read ∙ (ap (λ n. difference_of 0 n) there ∙ mask_when v truth);
          otherwise = λ read. done.second.second read ∙ (ap (λ n. sum_of n 4294967295) there ∙ mask_otherwise v truth);
        })
        (quiet (read_runs z has room)
        (both_run z unread unread' (instr.Register Sub d 0 r) (instr.Immediate Addi e r 4095)
        (simp (lt-ltb 4 d d_free.low, lt-ltb d 32 d_free.small, few))
        (simp (lt-ltb 4 e e_free.low, lt-ltb e 32 e_free.small, few)) d_free.nonzero e_free.nonzero apart
        (λ regs after same. ap (λ n. sum_of n 4294967295) (same r beside)))
        (λ env s t ready valued. valued.held))

    -- Both masks in x7 and x5, joined with the mask in a register.
    module _ (k : ℕ) (k_free : IsFree k) where
      abbrev one : Instr
      one = instr.Register And a 7 k

      abbrev other : Instr
      other = instr.Register And b 5 k

      few : nat_lt k 32 ≡ true
      few = lt-ltb k 32 k_free.small

      one_plain : computes is_free one ≡ true
      one_plain = simp (lt-ltb 4 a a_free.low, lt-ltb a 32 a_free.small, few)

      other_plain : computes is_free other ≡ true
      other_plain = simp (lt-ltb 4 b b_free.low, lt-ltb b 32 b_free.small, few)

      joins : (last : Bool) → (a == k) ≡ last
          → Runs z 2 none
          (if last then unless_unread unread' (other ∷ []) ++ unless_unread unread (one ∷ [])
          else unless_unread unread (one ∷ []) ++ unless_unread unread' (other ∷ []))
          (Held z) (λ env s t. Both z unread unread' one other s t)
      joins true same =
          gives
          (λ env s t fine held done. record {
            held = done.held;
            same = done.same;
            others = λ q not_one not_other. done.others q not_other not_one;
            first = done.second;
            second = done.first;
          })
          (both_run z unread' unread other one other_plain one_plain b_free.nonzero a_free.nonzero
          (λ e. a_beside (sym e))
          (λ regs after left. ap₂ bit_and
          (left 7 (λ e. mask_apart z (c + 1) 5 7 (omega arith) (λ e. omega (arith, e)) (sym e)))
          (left k (λ e. a_beside (eqb-true a k same ∙ e)))))
      joins false apart =
          both_run z unread unread' one other one_plain other_plain a_free.nonzero b_free.nonzero a_beside
          (λ regs after left. ap₂ bit_and
          (left 5 (λ e. mask_apart z c 7 5 (omega arith) (λ e. omega (arith, e)) (sym e)))
          (left k (λ e. eqb-false a k apart (sym e))))

    masked_runs : (enclosing : Option ℕ) → IsAmong z.controls enclosing → IsKeptWithin z.allocation.unread enclosing
        → Runs z (16 * term_nodes condition + 7) (steps_of condition)
        (tested ++ taken_code (layout_of z) unread unread' a b r enclosing) (Ready z) (MasksIn a b enclosing)
    masked_runs None among read = cheaper (omega arith) (masks_in a b a_free b_free a_beside (read_beside z c has))
    masked_runs (Some d) among read =
        let k = mask_register z d 6 in
        let k_free = mask_free z d 6 (omega arith) (omega arith) in
        as_code (simp append_assoc)
        (cheaper (omega arith)
        (gives
        (λ env s t fine ready done.
        let m0 = done.first.middle in
        let one = done.first.first in
        let fetched = done.first.second in
        let two = done.second in
        let mask = register-at done.middle.regs k k_free.nonzero ∙ fetched.there in
        record {
          held = two.held;
          kept = kept_then z (base_of z) s m0 t one.kept (kept_by z (base_of z) m0 t (two.same ∙ fetched.same));
          homes = λ q home first second. two.others q first second
              ∙ (fetched.others q (home_apart z q 6 home (omega arith))
              ∙ one.homes q home (home_apart z q 7 home (omega arith)) (home_apart z q 5 home (omega arith)));
          when = λ kept. two.first kept
              ∙ (ap₂ bit_and (fetched.others 7 (λ e. omega (arith, e)) ∙ one.when kept) mask
              ∙ masks_join (env.controls d) (f env));
          otherwise = λ kept. two.second kept
              ∙ (ap₂ bit_and (fetched.others 5 (λ e. omega (arith, e)) ∙ one.otherwise kept) mask
              ∙ masks_join (env.controls d) (g env));
        })
        (quiet
        (quiet
        (masks_in 7 5 (free_from 7 (omega arith) (omega arith)) (free_from 5 (omega arith) (omega arith))
        (λ e. omega (arith, e)) (source_apart z source 7 (omega arith) (λ e. omega (arith, e))))
        (mask_runs z d 6 among read (omega arith) (omega arith))
        (λ env s t ready done. ready_after z env s t ready done.held done.kept
        (λ q home. done.homes q home (home_apart z q 7 home (omega arith)) (home_apart z q 5 home (omega arith)))))
        (joins k k_free (a == k) refl)
        (λ env s t ready done. done.second.held))))

    -- a register that is no home holds the mask of what has none
    in_spare : (d spare v : ℕ) (t : machine.State) → t.regs (mask_register z d spare) ≡ v
        → home_of z.allocation.homes (length z.laid + d) ≡ None → t.regs spare ≡ v
    in_spare d spare v t is away =
        let same : mask_register z d spare ≡ spare =
        ap (λ h. register_of (at_home h (InSlot (control_offset z.laid d))) spare) away in
        ap t.regs (sym same) ∙ is

    pub take_runs : IsAmong z.controls within → IsKeptWithin z.allocation.unread within
        → Runs z (32 * nodes_work (term_nodes condition)) (steps_of condition)
        (statement_code (layout_of z) depth (straight.take c within condition))
        (Ready z) (StateShown z depth (λ env. after env (straight.take c within condition)))
    take_runs among read =
        let when = λ (env : StraightState). holds env within && f env in
        let otherwise = λ (env : StraightState). holds env within && g env in
        cheaper (omega arith)
        (gives
        (λ env s u fine ready done.
        let t = done.middle in
        let m = done.first.middle in
        let masked = done.first.first in
        let one = done.first.second in
        let two = done.second in
        record {
          ready = ready_taken z c (when env) (otherwise env) below env s m t u ready masked.kept masked.homes
              masked.when masked.otherwise one two;
          hidden =
              hidden_then z depth s m u (hidden_kept z depth s m inside masked.kept)
              (hidden_then z depth m t u (one.hidden depth) (two.hidden depth));
        })
        (quiet
        (quiet
        (masked_runs within among read)
        (mask_put z c 7 (λ env. mask_of (when env)) (omega (arith, below)) refl)
        (λ env s t ready masked. (
          masked.held,
          mask_fits (when env),
          λ kept. in_spare c 7 (mask_of (when env)) t (masked.when kept),
        )))
        (mask_put z (c + 1) 5 (λ env. mask_of (otherwise env)) below refl)
        (λ env s t ready done. (
          done.second.held,
          mask_fits (otherwise env),
          λ kept away. done.second.others 5 (λ e. omega (arith, e))
              ∙ in_spare (c + 1) 5 (mask_of (otherwise env)) done.middle (done.first.otherwise kept) away,
        ))))
