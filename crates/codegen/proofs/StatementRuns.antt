-- The code of a statement makes of the state what the statement makes of it.
use Rattle.std.proofs.Common.{◌≡◌, ℕ, zero, suc, ◌+◌, ◌*◌, ◌<◌, ◌≤◌, List, [], ◌∷◌, ◌++◌, Option, None, Some, length}
use Rattle.std.proofs.Common.{length-append, refl, subst, sym, arith}
use Rattle.codegen.proofs.BlockParts.{after_parts, behind, front, front_typed, path_parts, work_parts}
use Rattle.codegen.proofs.Language.{statement_work, block_work, StraightTree, set, array, put, take, branch, repeats}
use Rattle.codegen.proofs.Language.{StraightBlock, nothing, first, after, after_all, path_at, path_along, IsTyped}
use Rattle.codegen.proofs.Language.{AreTyped, labelled, Boolean, Public, StraightState}
use Rattle.codegen.proofs.Machine.{AllReadKept, ReadsKept, statement_code, code_behind, height_in, height_in_all}
use Rattle.codegen.proofs.Machine.{code_by, depth_in, depth_in_all, far, slots_to, Instr, word_code, word_put}
use Rattle.codegen.proofs.ElementRuns.{put_runs, fill_runs}
use Rattle.codegen.proofs.ElementUnderRuns.{put_under_runs}
use Rattle.codegen.proofs.LoopLengths.{repeat_spans}
use Rattle.codegen.proofs.BranchRuns.{branching_runs}
use Rattle.codegen.proofs.RepeatRuns.{loops_run}
use Rattle.codegen.specs.private.Loops.{any_sets}
use Rattle.codegen.proofs.ClearRuns.{clear_runs}
use Rattle.codegen.proofs.BranchLengths.{branching_spans}
use Rattle.codegen.proofs.Machine.{AreNear}
use Rattle.codegen.proofs.SetRuns.{set_runs}
use Rattle.codegen.proofs.TakeRuns.{take_runs}
use Rattle.codegen.proofs.Slots.{StateShown, hidden_then}
use Rattle.codegen.proofs.Logic.{along, Setting, base_of, Runs, seq, gives, cheaper, beside, idle, height, Ready, layout_of}
use Rattle.codegen.proofs.UnderRuns.{set_under_runs}
use Rattle.codegen.proofs.WordPuts.{front_runs}
use Rattle.codegen.specs.declared.word_puts.WordPut.{WordPut}

module _ (z : Setting) where
  -- what the code of statements behind so many does is what these make of the state
  abbrev Behind : ℕ → ℕ → StraightBlock → Type 0
  Behind depth passed b = Runs z (32 * block_work z.counts (behind passed b)) (λ env. path_along env (behind passed b))
      (code_behind (layout_of z) depth passed b) (Ready z)
      (StateShown z depth (λ env. after_all env (behind passed b)))

  -- of statements the first is run, or the word is stored that the first four put
  module _ (depth : ℕ) (within : depth ≤ z.depths) (s : StraightTree) (rest : StraightBlock)
      (typed : AreTyped z.code.profile z.declared z.controls (first s rest))
      (one : length (statement_code (layout_of z) depth s) < far
      → Runs z (32 * statement_work z.counts s) (λ env. path_at env s) (statement_code (layout_of z) depth s) (Ready z)
      (StateShown z depth (λ env. after env s)))
      (next : (passed : ℕ) → length (code_behind (layout_of z) depth passed rest) < far → Behind depth passed rest) where
    abbrev all : StraightBlock
    all = first s rest

    abbrev coded : Option WordPut → List Instr
    coded o =
        code_by o (λ word. word_code (layout_of z) word ++ code_behind (layout_of z) depth 3 rest)
        (statement_code (layout_of z) depth s ++ code_behind (layout_of z) depth 0 rest)

    by_word : (o : Option WordPut) → word_put z.laid z.allocation all ≡ o → length (coded o) < far
        → Runs z (32 * block_work z.counts all) (λ env. path_along env all) (coded o) (Ready z)
        (StateShown z depth (λ env. after_all env all))
    by_word None is few =
        cheaper (omega arith)
        (gives
        (λ env t u fine ready done. record {
          ready = done.second.ready;
          hidden = hidden_then z depth t done.middle u done.first.hidden done.second.hidden;
        })
        (seq (one (omega (arith, length-append {A = Instr}, few)))
        (beside (λ env. after env s) (next 0 (omega (arith, length-append {A = Instr}, few))))
        (λ env t u ready done. done.ready)))
    by_word (Some word) is few =
        cheaper (omega (arith, work_parts z.counts 4 all))
        (along (λ env. path_parts 4 all env)
        (gives
        (λ env t u fine ready done. record {
          ready = subst (λ (e : StraightState). Ready z e u) (sym (after_parts 4 all env)) done.second.ready;
          hidden = hidden_then z depth t done.middle u done.first.hidden done.second.hidden;
        })
        (seq
        (front_runs z depth within all word is (front_typed z.code.profile z.declared z.controls 4 all typed))
        (beside (λ env. after_all env (front 4 all)) (next 3 (omega (arith, length-append {A = Instr}, few))))
        (λ env t u ready done. done.ready))))

    chosen : length (code_behind (layout_of z) depth 0 all) < far → Behind depth 0 all
    chosen few = by_word (word_put z.laid z.allocation all) refl few

  mutual
    -- a well-typed statement for which there is room, in so many loops
    pub statement_runs : (depth : ℕ) (s : StraightTree) → IsTyped z.code.profile z.declared z.controls s
        → ReadsKept z.allocation.unread s
        → base_of z + 4 * slots_to z.allocation.count (height_in s) ≤ z.size → depth + depth_in s ≤ z.depths
        → length (statement_code (layout_of z) depth s) < far
        → Runs z (32 * statement_work z.counts s) (λ env. path_at env s)
        (statement_code (layout_of z) depth s) (Ready z)
        (StateShown z depth (λ env. after env s))
    statement_runs depth (set None x value) typed read room within few =
        set_runs z depth x value typed.1 room (omega (arith, within))
    statement_runs depth (set (Some c) x value) typed read room within few =
        set_under_runs z depth (omega (arith, within)) c typed.0 read x value typed.1 room
    statement_runs depth (array x size []) typed read room within few =
        clear_runs z depth x size typed (omega (arith, within))
    statement_runs depth (array x size (e ∷ es)) typed read room within few =
        fill_runs z depth x size e es typed room (omega (arith, within))
    statement_runs depth (put None place x size index value) typed read room within few =
        put_runs z depth place x size index value typed.1 room (omega (arith, within))
    statement_runs depth (put (Some c) place x size index value) typed read room within few =
        put_under_runs z depth place x size index value typed.1 room (omega (arith, within)) c typed.0 read
    statement_runs depth (take c enclosing condition) typed read room within few =
        take_runs z depth c enclosing condition typed.2.0 typed.0 typed.2.1 room (omega (arith, within)) typed.1 read
    statement_runs depth (branch condition accepted otherwise) typed read room within few =
        let xs = code_behind (layout_of z) depth 0 accepted in
        let ys = code_behind (layout_of z) depth 0 otherwise in
        let spans = branching_spans (layout_of z) condition xs ys in
        let near : AreNear (length xs) (length ys) = omega (arith, spans.0, few) in
        cheaper (omega arith)
        (branching_runs z depth condition (labelled Boolean Public) accepted otherwise
        (32 * block_work z.counts accepted) (32 * block_work z.counts otherwise)
        typed.0 (omega (arith, room)) (omega (arith, within)) near
        (runs_behind depth 0 accepted typed.1 read.0 (omega (arith, room)) (omega (arith, within)) (omega (arith, near)))
        (runs_behind depth 0 otherwise typed.2 read.1 (omega (arith, room)) (omega (arith, within))
        (omega (arith, near))))
    statement_runs depth (repeats x low high body) typed read room within few =
        let ys = code_behind (layout_of z) (depth + 1) 0 body in
        let spans = repeat_spans (layout_of z) depth x ys low high (any_sets x body) in
        cheaper (omega (arith, height low))
        (loops_run z depth x (omega (arith, within)) low high body (32 * block_work z.counts body)
        typed.2 typed.0 typed.1 (omega (arith, room)) (omega (arith, room))
        (runs_behind (depth + 1) 0 body typed.3 read (omega (arith, room)) (omega (arith, within))
        (omega (arith, spans.0, few)))
        few)

    -- statements behind so many, one after the other
    pub runs_behind : (depth passed : ℕ) (b : StraightBlock) → AreTyped z.code.profile z.declared z.controls b
        → AllReadKept z.allocation.unread b
        → base_of z + 4 * slots_to z.allocation.count (height_in_all b) ≤ z.size → depth + depth_in_all b ≤ z.depths
        → length (code_behind (layout_of z) depth passed b) < far → Behind depth passed b
    runs_behind depth zero nothing typed read room within few =
        idle (λ env s ready. record { ready = ready; hidden = λ o low high. refl })
    runs_behind depth (suc passed) nothing typed read room within few =
        idle (λ env s ready. record { ready = ready; hidden = λ o low high. refl })
    runs_behind depth (suc passed) (first s rest) typed read room within few =
        runs_behind depth passed rest typed.1 read.1 (omega (arith, room)) (omega (arith, within)) few
    runs_behind depth zero (first s rest) typed read room within few =
        chosen depth (omega (arith, within)) s rest typed
        (λ small. statement_runs depth s typed.0 read.0 (omega (arith, room)) (omega (arith, within)) small)
        (λ passed small. runs_behind depth passed rest typed.1 read.1 (omega (arith, room)) (omega (arith, within))
        small)
        few
