-- The code of a program whose variables need not all be at home at first: until they are set, their slots count, as if
-- they had no homes.
use Rattle.std.proofs.Common.{◌≡◌, ◌∙◌, ap₂, refl, subst, None, ℕ, zero, suc, ◌+◌, ◌*◌, ◌<◌, ◌≤◌, Bool, true, List, ◌++◌}
use Rattle.std.proofs.Common.{length, length-append, append_assoc, Option, Some, slice_get, slice_index}
use Rattle.std.proofs.Common.{sym, arith}
use Rattle.std.proofs.lemmas.Bool.{not-true}
use Rattle.codegen.proofs.Arguments.{Left}
use Rattle.codegen.proofs.BlockParts.{after_parts, behind, front, front_typed, path_parts, work_parts}
use Rattle.codegen.proofs.EntryRuns.{entry_runs}
use Rattle.codegen.proofs.FewerHomes.{home_was, homes_fewer, result_same}
use Rattle.codegen.proofs.FewerWords.{front_run}
use Rattle.codegen.proofs.FreshRuns.{StatementRun, stepped}
use Rattle.codegen.proofs.Language.{after, after_all, AreTyped, block_work, first, FlatVariable, IsResult, nothing}
use Rattle.codegen.proofs.Language.{numbers_in, Path, path_along, path_at, StraightBlock, StraightState, StraightTree, TermTree, types_of}
use Rattle.codegen.proofs.Language.{value_nodes, WordType}
use Rattle.codegen.proofs.Logic.{along, as_code, base_of, beside, bytes_of, cheaper, gives, HeldAt, IsOfKind, layout_of}
use Rattle.codegen.proofs.Logic.{place_of, quietly, Ready, Runs, seq, Setting, weaken}
use Rattle.codegen.proofs.Machine.{Allocation, AllReadKept, code_behind, code_by, depth_in_all, entry_code, far, height_in_all}
use Rattle.codegen.proofs.Machine.{word_code, word_put}
use Rattle.codegen.proofs.Machine.{home_count, Instr, number_at, result_code, result_height, slots_to, statement_code}
use Rattle.codegen.proofs.SetRuns.{result_runs, steps_of_result}
use Rattle.codegen.proofs.SettingBut.{AreBare, fewer, in_all, typed_as, typed_away, typed_each, typed_same}
use Rattle.codegen.proofs.Slots.{Laid}
use Rattle.codegen.proofs.TypedBut.{result_typed}
use Rattle.codegen.specs.declared.word_puts.WordPut.{WordPut}
use Rattle.codegen.specs.private.Fresh.{homes_but, is_fresh, names_in_result}
use Rattle.codegen.specs.private.Generated.{mirror_count, mirrors_code}
use Rattle.rv_machine.specs.Machine as machine

module _ (z : Setting) where
  abbrev a : Allocation
  a = z.allocation

  abbrev base : ℕ
  base = base_of z

  -- what a program leaves in the end
  pub record ProgramEnded (value : Option TermTree) (env : StraightState) (t : machine.State) : Type 0 where
    pub held : HeldAt z t
    pub arrays_held : (x : ℕ) (d : FlatVariable) (size : ℕ) → slice_get z.declared x ≡ Some d
        → d.elements ≡ Some size → IsOfKind d (env.variables x)
    pub arrays_there : (x : ℕ) (d : FlatVariable) (size i : ℕ) → slice_get z.declared x ≡ Some d
        → d.elements ≡ Some size → i < numbers_in d.elements
        → number_at t.bytes (bytes_of d) (z.frame + place_of z.laid x d i)
        ≡ Some (slice_index (env.variables x) i)
    pub left : Left z.frame z.laid value env.variables t.bytes

  module _ (returned : Option WordType) (value : Option TermTree)
      (typed_result : IsResult (types_of z.code.profile z.declared) returned value)
      (room_result : base + 4 * slots_to a.count (result_height value) ≤ z.size)
      (whole : ℕ → Bool) (variables : (y : ℕ) → whole y ≡ true → y < length z.laid) (bare : AreBare z whole) where
    -- an array is typed as before
    array_typed : (out : ℕ → Bool) (x : ℕ) (d : FlatVariable) (size : ℕ) → slice_get z.declared x ≡ Some d
        → d.elements ≡ Some size → slice_get (typed_as z out) x ≡ Some d
    array_typed out x d size is array = typed_away z out x d is (z.allocated.words x d size is array)

    abbrev code_after : ℕ → StraightBlock → List Instr
    code_after passed b = code_behind (layout_of z) 0 passed b

    -- statements behind so many and the result behind them are run, and these are not at home yet
    abbrev Behind : ℕ → StraightBlock → (ℕ → Bool) → Type 0
    Behind passed b out = Runs z (32 * block_work z.counts (behind passed b) + 32 * value_nodes value)
        (λ env. path_along env (behind passed b) ++ steps_of_result value (after_all env (behind passed b)))
        (code_after passed b ++ result_code (layout_of z) value) (Ready (fewer z out))
        (λ env s t. ProgramEnded value (after_all env (behind passed b)) t)

    abbrev AreSome : (ℕ → Bool) → Type 0
    AreSome out = (y : ℕ) → out y ≡ true → whole y ≡ true

    result_behind : (out : ℕ → Bool) → AreSome out → ((y : ℕ) → out y ≡ true → is_fresh y nothing value ≡ true)
        → Behind 0 nothing out
    result_behind out some fresh =
        let unnamed = λ (y : ℕ) (on : out y ≡ true). not-true (names_in_result y value) (fresh y on) in
        as_code
        (sym (result_same (layout_of z) out (λ y on. variables y (some y on)) value unnamed))
        (cheaper (omega arith)
        (gives
        (λ env s t fine ready given. record {
          held = record { base = given.ready.held.base; data_there = given.ready.held.data_there };
          arrays_held = λ x d size is array. given.ready.fits x d (array_typed out x d size is array);
          arrays_there = λ x d size i is array below.
              let typed = array_typed out x d size is array in
              given.ready.variables_there x d i typed ((fewer z out).allocated.words x d size typed array) below;
          left = given.left;
        })
        (in_all z out (result_runs (fewer z out) returned value
        (result_typed out z.code.profile z.declared (typed_as z out) (typed_same z out) returned value typed_result
        unnamed) room_result))))

    -- the first statement is run, or the word is stored that the first four put
    module _ (out : ℕ → Bool) (some : AreSome out) (s : StraightTree) (rest : StraightBlock)
        (fresh : (y : ℕ) → out y ≡ true → is_fresh y (first s rest) value ≡ true)
        (typed : AreTyped z.code.profile z.declared z.controls (first s rest))
        (one : length (statement_code (layout_of z) 0 s) < far → StatementRun z whole variables bare 0 out s rest value)
        (next : (left : ℕ → Bool) → AreSome left → (passed : ℕ)
        → ((y : ℕ) → left y ≡ true → is_fresh y (behind passed rest) value ≡ true)
        → length (code_after passed rest) < far → Behind passed rest left) where
      abbrev all : StraightBlock
      all = first s rest

      abbrev coded : Option WordPut → List Instr
      coded o = code_by o (λ word. word_code (layout_of z) word ++ code_after 3 rest)
          (statement_code (layout_of z) 0 s ++ code_after 0 rest)

      by_word : (o : Option WordPut) → word_put z.laid a all ≡ o → length (coded o) < far
          → Runs z (32 * block_work z.counts all + 32 * value_nodes value)
          (λ env. path_along env all ++ steps_of_result value (after_all env all))
          (coded o ++ result_code (layout_of z) value) (Ready (fewer z out))
          (λ env s t. ProgramEnded value (after_all env all) t)
      by_word None is few =
          let step = one (omega (arith, length-append {A = Instr}, few)) in
          as_code (append_assoc (statement_code (layout_of z) 0 s) (code_after 0 rest) (result_code (layout_of z) value))
          (along (λ env. append_assoc (path_at env s) (path_along (after env s) rest)
          (steps_of_result value (after_all (after env s) rest)))
          (cheaper (omega arith)
          (gives
          (λ env s' t fine ready done. done.second)
          (seq step.runs
          (beside (λ env. after env s)
          (next step.left (λ y on. some y (step.fewer_left y on)) 0 step.fresh
          (omega (arith, length-append {A = Instr}, few))))
          (λ env s' t ready done. done.0)))))
      by_word (Some word) is few =
          let run = front_run z 0 (omega arith) out (λ y on. variables y (some y on)) all value word is fresh
          (front_typed z.code.profile z.declared z.controls 4 all typed) in
          let later = λ (env : StraightState). after_all env (front 4 all) in
          as_code (append_assoc (word_code (layout_of z) word) (code_after 3 rest) (result_code (layout_of z) value))
          (along
          (λ env.
          ap₂ (λ (p : Path) (e : StraightState). p ++ steps_of_result value e) (path_parts 4 all env)
          (after_parts 4 all env)
          ∙ append_assoc (path_along env (front 4 all)) (path_along (later env) (behind 4 all))
          (steps_of_result value (after_all (later env) (behind 4 all))))
          (cheaper (omega (arith, work_parts z.counts 4 all))
          (gives
          (λ env s' t fine ready done. subst (λ (e : StraightState). ProgramEnded value e t) (sym (after_parts 4 all env))
          done.second)
          (seq run.runs
          (beside later (next out some 3 run.fresh (omega (arith, length-append {A = Instr}, few))))
          (λ env s' t ready done. done.0)))))

      chosen : length (code_after 0 all) < far → Behind 0 all out
      chosen few = by_word (word_put z.laid a all) refl few

    behind_runs : (passed : ℕ) (b : StraightBlock) (out : ℕ → Bool) → AreSome out
        → ((y : ℕ) → out y ≡ true → is_fresh y (behind passed b) value ≡ true)
        → AreTyped z.code.profile z.declared z.controls b → AllReadKept a.unread b
        → base + 4 * slots_to a.count (height_in_all b) ≤ z.size → depth_in_all b ≤ z.depths
        → length (code_after passed b) < far → Behind passed b out
    behind_runs zero nothing out some fresh typed read room within few = result_behind out some fresh
    behind_runs (suc passed) nothing out some fresh typed read room within few = result_behind out some fresh
    behind_runs (suc passed) (first s rest) out some fresh typed read room within few =
        behind_runs passed rest out some fresh typed.1 read.1 (omega (arith, room)) (omega (arith, within)) few
    behind_runs zero (first s rest) out some fresh typed read room within few =
        chosen out some s rest fresh typed
        (λ small. stepped z whole variables bare 0 out some s rest value fresh typed.0 read.0 (omega (arith, room))
        (omega (arith, within)) small)
        (λ left less passed new small. behind_runs passed rest left less new typed.1 read.1 (omega (arith, room))
        (omega (arith, within)) small)
        few

    -- A program: the homes but those of some words are filled first.

    pub program_runs : (b : StraightBlock) → ((y : ℕ) → whole y ≡ true → is_fresh y b value ≡ true)
        → length a.homes ≤ length z.laid + z.controls
        → AreTyped z.code.profile z.declared z.controls b → AllReadKept a.unread b
        → base + 4 * slots_to a.count (height_in_all b) ≤ z.size → depth_in_all b ≤ z.depths
        → length (code_after 0 b) < far
        → Runs z (3 * home_count a.homes + 2 * mirror_count a.mirrors
        + (32 * block_work z.counts b + 32 * value_nodes value))
        (λ env. path_along env b ++ steps_of_result value (after_all env b))
        ((entry_code z.laid 0 (homes_but whole 0 a.homes) ++ mirrors_code (homes_but whole 0 a.homes) 0 a.mirrors)
        ++ (code_after 0 b ++ result_code (layout_of z) value))
        (Laid z) (λ env s t. ProgramEnded value (after_all env b) t)
    program_runs b fresh few_homes typed read room within few =
        let count = homes_fewer whole 0 a.homes in
        cheaper (omega (arith, count.0))
        (gives
        (λ env s t fine laid done. done.second)
        (quietly
        (weaken
        (λ env s fine laid. record {
          held = record { base = laid.held.base; data_there = laid.held.data_there };
          fits = λ x d is.
              typed_each z whole x d (IsOfKind d (env.variables x)) is (λ on known. laid.laid_fits x d known)
              (λ off known. laid.fits x d known);
          laid_fits = laid.laid_fits;
          slots_there = laid.slots_there;
          zeros_there = λ x home at. laid.zeros_there x home (home_was a whole x home at);
          controls_there = laid.controls_there;
        })
        (λ env s t fine laid done. done)
        (in_all z whole (entry_runs (fewer z whole) (omega (arith, count.1, few_homes)))))
        (behind_runs 0 b whole (λ y on. on) fresh typed read room within few)
        (λ env s t laid ready. ready)))
