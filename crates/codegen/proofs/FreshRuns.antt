-- The code of statements before which some variables are not at home: what reads one comes behind a statement that sets
-- it.
use Rattle.std.proofs.Common.{◌≡◌, ℕ, zero, suc, ◌+◌, ◌-◌, ◌*◌, ◌<◌, ◌≤◌, ◌==◌, ◌&&◌, ◌||◌, not, Bool, true, false, List, ◌++◌}
use Rattle.std.proofs.Common.{length, length-append, Option, None, Some, slice_get, refl}
use Rattle.std.proofs.Common.{sym, ap, ◌∙◌, subst, arith, ne_eqb, eq-eqb}
use Rattle.std.proofs.lemmas.Bool.{and_left, and_parts, cases_Bool, not-true, or_from, true≢false}
use Rattle.codegen.proofs.BlockParts.{after_parts, behind, front, front_typed, path_parts, work_parts}
use Rattle.codegen.proofs.BranchLengths.{branching_spans}
use Rattle.codegen.proofs.BranchRuns.{branching_runs}
use Rattle.codegen.proofs.Choices.{of_choice}
use Rattle.codegen.proofs.FewerHomes.{branching_same, but, home_but, home_kept, into_same, IsSimple, neither_of_three}
use Rattle.codegen.proofs.FewerHomes.{assign_same, repeat_same, statement_same}
use Rattle.codegen.proofs.FewerWords.{front_run}
use Rattle.codegen.proofs.LoopLengths.{repeat_spans}
use Rattle.codegen.proofs.Machine.{AreNear, mirror_by, mirror_of, sum_of}
use Rattle.codegen.proofs.Mirroring.{mirror_runs}
use Rattle.codegen.proofs.CounterStarts.{IsStart, Numbers}
use Rattle.codegen.proofs.CountingRuns.{count_there}
use Rattle.codegen.proofs.LoopRuns.{AtLoop, bounds_runs}
use Rattle.codegen.proofs.RepeatRuns.{certain_loops_run, loops_run}
use Rattle.codegen.proofs.Language.{element_bytes, labelled, Boolean, Public}
use Rattle.codegen.proofs.Logic.{height, idle, kept_by, kept_then, quiet}
use Rattle.expression_code.specs.Allocation.{mirror_if}
use Rattle.std.proofs.Common.{ap₂, inl, inr, unwrap_or}
use Rattle.codegen.proofs.Language.{after, after_all, AreTyped, array, block_work, branch, first, IsSet, IsTyped}
use Rattle.codegen.proofs.Language.{nothing, Path, path_along, path_at, put, repeats, set, statement_work, take}
use Rattle.codegen.proofs.Language.{StraightBlock, StraightState, StraightTree, TermTree}
use Rattle.codegen.proofs.Language.{counter_type, FlatVariable, iterations_counted, path_in, term_nodes, TermHasType}
use Rattle.codegen.proofs.Language.{types_of, value_in, word_as}
use Rattle.codegen.proofs.Logic.{as_code, base_of, beside, cheaper, eqb-false, eqb-true, gives, home_beside, along}
use Rattle.codegen.proofs.Logic.{kept_less, layout_of, Ready, Runs, seq, Setting, weaken}
use Rattle.codegen.proofs.Machine.{Allocation, AllReadKept, at_home, code_behind, code_by, depth_in, depth_in_all}
use Rattle.codegen.proofs.Machine.{far, height_in, height_in_all, height_of, home_of, InSlot, Instr, ReadsKept}
use Rattle.codegen.proofs.Machine.{bounds_code, next_offset, set_code, slots_to, statement_code, variable_offset}
use Rattle.codegen.proofs.Machine.{word_code, word_put}
use Rattle.codegen.proofs.SettingBut.{AreBare, as_before, fewer, in_all, in_fewer, laid_but, ready_alike, ready_left}
use Rattle.codegen.proofs.SettingBut.{typed_as, typed_away, typed_before, typed_same, without}
use Rattle.codegen.proofs.Slots.{Hidden, hidden_kept, hidden_then, homed_runs, StateShown}
use Rattle.codegen.proofs.Slots.{ready_with, suits_fits}
use Rattle.codegen.proofs.StatementRuns.{statement_runs}
use Rattle.codegen.specs.private.Fresh.{is_certain, is_fresh, names_in, passes, sets_fresh}
use Rattle.codegen.specs.Below.{number}
use Rattle.codegen.specs.private.Loops.{any_sets, repeat_code}
use Rattle.codegen.specs.declared.word_puts.WordPut.{WordPut}
use Rattle.codegen.proofs.HomeWords.{ready_at_home}
use Rattle.codegen.proofs.TypedBut.{known_typed, own_typed, statement_typed, value_typed}
use Rattle.rv_machine.specs.Machine as machine

both_true : (b c : Bool) → (not b && c) ≡ true → (b ≡ false) × (c ≡ true)
both_true false true h = (refl, refl)
both_true false false h = absurd (true≢false (sym h))
both_true true c h = absurd (true≢false (sym h))

-- what does not set one passes it
passed : (a b c : Bool) → a ≡ false → (a || (b && c)) ≡ true → (b ≡ true) × (c ≡ true)
passed a b c off h = and_parts b c (ap (λ x. x || (b && c)) (sym off) ∙ h)

-- one that a statement sets so is not read there; one that it does not name is set so later
not_read : (same read fresh : Bool) → ((same && not read) || (not (same || read) && fresh)) ≡ true → read ≡ false
not_read same false fresh h = refl
not_read true true fresh h = absurd (true≢false (sym h))
not_read false true fresh h = absurd (true≢false (sym h))

later : (same read fresh : Bool) → same ≡ false → ((same && not read) || (not (same || read) && fresh)) ≡ true
    → fresh ≡ true
later true read fresh other h = absurd (true≢false other)
later false false fresh other h = h
later false true fresh other h = absurd (true≢false (sym h))

-- bounds that are numbers name no variable
certain_unnamed : (low high : TermTree) (y : ℕ) → is_certain low high ≡ true
    → (names_in y low ≡ false) × (names_in y high ≡ false)
certain_unnamed (number l kind) (number v other) y certain = (refl, refl)
certain_unnamed low high y certain = absurd (true≢false (sym certain))

-- a loop that does not pass its counter is certain to make an iteration
counter_fresh : (same certain other inner fresh : Bool) → same ≡ true
    → ((same && certain) || ((not (same || other) && inner) && fresh)) ≡ true → certain ≡ true
counter_fresh true true other inner fresh is h = refl
counter_fresh true false other inner fresh is h = absurd (true≢false (sym h))
counter_fresh false certain other inner fresh is h = absurd (true≢false (sym is))

module _ (z : Setting) where
  abbrev a : Allocation
  a = z.allocation

  abbrev base : ℕ
  base = base_of z

  abbrev code_of : ℕ → StraightTree → List Instr
  code_of depth s = statement_code (layout_of z) depth s

  -- what is left of a state behind a statement or a block: these are not at home, and the words of the loops around are
  -- as they were
  abbrev Made : ℕ → (ℕ → Bool) → (StraightState → StraightState) → StraightState → machine.State → machine.State
      → Type 0
  Made depth out made env s t = Ready (fewer z out) (made env) t × Hidden z depth s t

  -- what one statement makes of a state in which some variables are not at home yet
  abbrev Steps_on : ℕ → (ℕ → Bool) → (ℕ → Bool) → StraightTree → Type 0
  Steps_on depth out rest s = Runs z (32 * statement_work z.counts s) (λ env. path_at env s) (code_of depth s)
      (Ready (fewer z out)) (Made depth rest (λ env. after env s))

  -- one that has no home may be left out or not
  module _ (out : ℕ → Bool) (x : ℕ) (d : FlatVariable) (known : slice_get z.declared x ≡ Some d)
      (away : home_of a.homes x ≡ None) where
    same_homes : (y : ℕ) (b : Bool) → (y == x) ≡ b
        → home_of (but a out).homes y ≡ home_of (but a (without out x)).homes y
    same_homes y true q =
        let none_here : home_of a.homes y ≡ None = ap (λ n. home_of a.homes n) (eqb-true y x q) ∙ away in
        let none_left : (left : ℕ → Bool) → home_of (but a left).homes y ≡ None =
        λ left. home_but a left y ∙ of_choice (λ (h : Option ℕ). h ≡ None) (left y) refl none_here in
        none_left out ∙ sym (none_left (without out x))
    same_homes y false q = as_before z out x y q

    same_types : (y : ℕ) (b : Bool) → (y == x) ≡ b
        → slice_get (typed_as z out) y ≡ slice_get (typed_as z (without out x)) y
    same_types y true q =
        let at = eqb-true y x q in
        let there : slice_get z.declared y ≡ Some d = ap (λ n. slice_get z.declared n) at ∙ known in
        let none_here : home_of a.homes y ≡ None = ap (λ n. home_of a.homes n) at ∙ away in
        typed_away z out y d there none_here ∙ sym (typed_away z (without out x) y d there none_here)
    same_types y false q = typed_before z out x y q

    away_alike : (env : StraightState) (s : machine.State) → Ready (fewer z out) env s
        → Ready (fewer z (without out x)) env s
    away_alike env s ready =
        ready_alike z out (without out x) (λ y. same_homes y (y == x) refl) (λ y. same_types y (y == x) refl) env s ready

  module _ (depth : ℕ) where
    -- a statement without others in it that passes them all
    kept_runs : (out : ℕ → Bool) → ((y : ℕ) → out y ≡ true → y < length z.laid)
        → (s : StraightTree) → IsSimple s → ((y : ℕ) → out y ≡ true → passes y s ≡ true)
        → IsTyped z.code.profile z.declared z.controls s → ReadsKept a.unread s
        → base + 4 * slots_to a.count (height_in s) ≤ z.size → depth + depth_in s ≤ z.depths
        → length (code_of depth s) < far → Steps_on depth out out s
    kept_runs out variables s simple free typed read room within few =
        let same = statement_same (layout_of z) out variables depth s simple free in
        as_code (sym same)
        (gives (λ env s' t fine ready done. (done.ready, done.hidden))
        (in_all z out
        (statement_runs (fewer z out) depth s
        (statement_typed out z.code.profile z.declared (typed_as z out) (typed_same z out) z.controls s simple typed free)
        read room within (subst (λ (is : List Instr). length is < far) (sym same) few))))

    -- one of those is set
    module _ (out : ℕ → Bool) (variables : (y : ℕ) → out y ≡ true → y < length z.laid) (x : ℕ) (value : TermTree)
        (typed : IsSet z.code.profile z.declared x value) (unread : (y : ℕ) → out y ≡ true → names_in y value ≡ false)
        (room : base + 4 * slots_to a.count (height_of value) ≤ z.size) (within : depth ≤ z.depths) where
      -- it has no home, or comes into it
      fresh_runs : length (code_of depth (set None x value)) < far → (h : Option ℕ) → home_of a.homes x ≡ h
          → Steps_on depth out (without out x) (set None x value)
      fresh_runs few None away =
          let rest = without out x in
          weaken
          (λ env s fine ready. away_alike out x (word_as typed.word typed.mutable) typed.known away env s ready)
          (λ env s t fine ready done. done)
          (kept_runs rest (λ y on. variables y (both_true (y == x) (out y) on).1) (set None x value) tt
          (λ y on.
          let both = both_true (y == x) (out y) on in
          ap not (or_from (x == y) (names_in y value) (ne_eqb x y (λ e. eqb-false y x both.0 (sym e)))
          (unread y both.1)))
          (tt, typed) tt room (omega (arith, within)) few)
      fresh_runs few (Some home) at =
          let is = z.allocated.allowed x home at in
          let suits = value_typed out z.code.profile z.declared (typed_as z out) (typed_same z out) typed.word value
          typed.suits unread in
          let same = into_same (layout_of z) out variables home 0 value unread in
          let left = without out x in
          let off : left x ≡ false = ap (λ b. not b && out x) (eq-eqb x x refl) in
          let here : home_of (but a left).homes x ≡ Some home = home_kept a left x off ∙ at in
          let own : mirror_of (but a left) x ≡ mirror_of a x =
          ap (λ (h : Option ℕ). mirror_if h (unwrap_or (slice_get a.mirrors x) None)) (home_kept a left x off) in
          as_code
          (ap₂ (λ (front back : List Instr). front ++ back)
          (ap (λ h. set_code (layout_of z) None (at_home h (InSlot (variable_offset z.laid x))) value) at ∙ sym same)
          (ap₂ mirror_by (sym (home_kept a left x off)) (sym own)))
          (cheaper (omega arith)
          (gives
          (λ env s t fine ready done.
          let m = done.middle in
          let one = done.first in
          let v = value_in env.variables value in
          let fits = suits_fits z.code.profile (typed_as z out) typed.word value env.variables ready.fits suits in
          let there : t.regs home ≡ v =
          done.second.others home (λ e. omega (arith, is.1, e))
          (λ mirror mirrored. (fewer z left).allocated.mirror_apart x x home mirror mirrored here) ∙ one.there in
          let kept = kept_then z base s m t (kept_less z base (base + 4 * (0 - a.count)) s m (omega arith) one.kept)
          (kept_by z base m t done.second.same) in (
            ready_at_home (fewer z left) (typed_as z out) (but a out) (laid_but z out) refl refl x home v
                typed.word typed.mutable (typed_same z left x off ∙ typed.known) here
                (λ y apart. as_before z out x y (ne_eqb y x apart)) (λ y apart. typed_before z out x y (ne_eqb y x apart))
                fits env s t ready
                (record { base = done.second.held.base; data_there = done.second.held.data_there })
                kept there
                (λ mirror mirrored. done.second.there home mirror mirrored here
                ∙ ap (λ w. sum_of (element_bytes mirror.kind * w) z.frame) one.there)
                (λ r other apart beside. done.second.others r (λ e. omega (arith, other.1, e)) beside
                ∙ one.lower r (home_beside a.count 0 home r other.0 other.1 apart)),
            hidden_kept z depth s t within kept,
          ))
          (quiet (in_all z out (homed_runs (fewer z out) home is suits.has_type room))
          (in_all z left (mirror_runs (fewer z left) x))
          (λ env s t ready done. record { base = done.held.base; data_there = done.held.data_there }))))

    -- a loop that is certain to make an iteration sets its counter
    module _ (out : ℕ → Bool) (variables : (y : ℕ) → out y ≡ true → y < length z.laid) (bare : AreBare z out) (x : ℕ)
        (low high : TermTree) (body : StraightBlock) (certain : is_certain low high ≡ true)
        (typed : IsTyped z.code.profile z.declared z.controls (repeats x low high body))
        (room_low : base + 4 * slots_to a.count (height_of low) ≤ z.size)
        (room_high : base + 4 * slots_to a.count (height_of high) ≤ z.size) (within : depth < z.depths) where
      abbrev rest : ℕ → Bool
      rest = without out x

      outside : (y : ℕ) → rest y ≡ true → (x == y) ≡ false
      outside y on = ne_eqb x y (λ e. eqb-false y x (both_true (y == x) (out y) on).0 (sym e))

      still_out : (y : ℕ) → rest y ≡ true → out y ≡ true
      still_out y on = (both_true (y == x) (out y) on).1

      low_free : (left : ℕ → Bool) (y : ℕ) → left y ≡ true → names_in y low ≡ false
      low_free left y on = (certain_unnamed low high y certain).0

      high_free : (left : ℕ → Bool) (y : ℕ) → left y ≡ true → names_in y high ≡ false
      high_free left y on = (certain_unnamed low high y certain).1

      known_rest : slice_get (typed_as z rest) x ≡ Some (word_as counter_type false)
      known_rest = known_typed rest z.code.profile z.declared (typed_as z rest) (typed_same z rest) x outside typed.2

      low_typed : (left : ℕ → Bool) → TermHasType (types_of z.code.profile (typed_as z left)) low counter_type
      low_typed left = own_typed left z.code.profile z.declared (typed_as z left) (typed_same z left) typed.0 (low_free left)

      high_typed : (left : ℕ → Bool) → TermHasType (types_of z.code.profile (typed_as z left)) high counter_type
      high_typed left =
          own_typed left z.code.profile z.declared (typed_as z left) (typed_same z left) typed.1 (high_free left)

      abbrev next : ℕ
      next = next_offset (layout_of z) depth

      -- the bounds name none of those
      bounds_same : bounds_code (layout_of (fewer z rest)) next low high ≡ bounds_code (layout_of (fewer z out)) next low high
      bounds_same =
          let below = λ (y : ℕ) (on : rest y ≡ true). variables y (still_out y on) in
          ap₂ (λ (front back : List Instr). front ++ back)
          (assign_same (layout_of z) rest below low next (low_free rest)
          ∙ sym (assign_same (layout_of z) out variables low next (low_free out)))
          (assign_same (layout_of z) rest below high (next + 4) (high_free rest)
          ∙ sym (assign_same (layout_of z) out variables high (next + 4) (high_free out)))

      starts : IsStart (fewer z rest) (Ready (fewer z out))
      starts = record {
        held = λ env s ready. record { base = ready.held.base; data_there = ready.held.data_there };
        shown = λ env s ready. ready_left z rest out still_out variables bare env s ready;
        moved = λ env s t ready held same homes.
            ready_with (fewer z out) env s t ready (record { base = held.base; data_there = held.data_there }) same homes;
      }

      numbers : (home : ℕ) (there : home_of (but a rest).homes x ≡ Some home)
          → Numbers (fewer z rest) depth x home known_rest there (Ready (fewer z out))
      numbers home there v w small env s t ready done is =
          let left = fewer z rest in
          let m = done.middle in
          let kept = kept_then left base s m t (kept_by left base s m done.first.same) (kept_by left base m t done.second.same) in
          let there_is = done.first.there ∙ is in
          ready_at_home left (typed_as z out) (but a out) (laid_but z out) refl refl x home w counter_type false known_rest
          there (λ y apart. as_before z out x y (ne_eqb y x apart)) (λ y apart. typed_before z out x y (ne_eqb y x apart))
          small env s t ready done.second.held kept (count_there left depth x home known_rest there done ∙ is)
          (λ mirror mirrored. done.second.there home mirror mirrored there
          ∙ ap (λ n. sum_of (element_bytes mirror.kind * n) z.frame) there_is)
          (λ r other apart beside. done.second.others r (λ e. omega (arith, other.1, e)) beside
          ∙ done.first.others r apart)

      begins : Runs (fewer z rest) (16 * term_nodes low + 3 + (16 * term_nodes high + 3))
          (λ env. path_in env.variables low ++ path_in env.variables high)
          (bounds_code (layout_of (fewer z rest)) next low high) (Ready (fewer z out))
          (λ env s t. AtLoop (fewer z rest) (Ready (fewer z out)) next
          (value_in env.variables high - value_in env.variables low) (value_in env.variables low) env t
          × Hidden (fewer z rest) depth s t)
      begins =
          as_code bounds_same
          (gives
          (λ env s t fine ready begun. (
            record {
              ready = begun.0.ready;
              counts = record {
                next_there = begun.0.counts.next_there;
                bound = begun.0.counts.bound;
                left_is = begun.0.counts.left_is;
                bound_small = begun.0.counts.bound_small;
                bound_there = begun.0.counts.bound_there;
              };
            },
            begun.1,
          ))
          (in_fewer z rest
          (in_all z out
          (bounds_runs (fewer z out) depth within low high (low_typed out) (high_typed out) room_low room_high))))

      counter_runs : (n : ℕ) {ys : List Instr}
          → Runs (fewer z rest) n (λ env. path_along env body) ys (Ready (fewer z rest))
          (StateShown (fewer z rest) (depth + 1) (λ env. after_all env body))
          → length (repeat_code (layout_of z) depth x low high (any_sets x body) ys) < far
          → (h : Option ℕ) → home_of a.homes x ≡ h
          → Runs z (16 * term_nodes low + 3 + (16 * term_nodes high + 3)
          + (iterations_counted z.counts x low high + 1) * (7 + (9 + n) + 2))
          (λ env. path_at env (repeats x low high body))
          (repeat_code (layout_of z) depth x low high (any_sets x body) ys) (Ready (fewer z out))
          (Made depth rest (λ env. after env (repeats x low high body)))
      counter_runs n {ys = ys} inner few None away =
          let below = λ (y : ℕ) (on : rest y ≡ true). variables y (still_out y on) in
          let same = repeat_same (layout_of z) rest below depth x low high (any_sets x body) ys outside (low_free rest)
          (high_free rest) in
          as_code (sym same)
          (weaken
          (λ env s fine ready. away_alike out x (word_as counter_type false) typed.2 away env s ready)
          (λ env s t fine ready done. (done.ready, done.hidden))
          (in_all z rest
          (loops_run (fewer z rest) depth x within low high body n known_rest (low_typed rest) (high_typed rest) room_low
          room_high inner (subst (λ (is : List Instr). length is < far) (sym same) few))))
      counter_runs n {ys = ys} inner few (Some h) at =
          let below = λ (y : ℕ) (on : rest y ≡ true). variables y (still_out y on) in
          let same = repeat_same (layout_of z) rest below depth x low high (any_sets x body) ys outside (low_free rest)
          (high_free rest) in
          let off : rest x ≡ false = ap (λ b. not b && out x) (eq-eqb x x refl) in
          as_code (sym same)
          (gives
          (λ env s t fine ready done. (done.ready, done.hidden))
          (in_all z rest
          (certain_loops_run (fewer z rest) depth x within low high body n known_rest (low_typed rest) (high_typed rest)
          room_low room_high inner certain (Ready (fewer z out)) starts h (home_kept a rest x off ∙ at) numbers begins
          (subst (λ (is : List Instr). length is < far) (sym same) few))))

  -- Statements, and others in them. These and none but these are not at home at first.
  module _ (whole : ℕ → Bool) (variables : (y : ℕ) → whole y ≡ true → y < length z.laid) (bare : AreBare z whole) where
    -- some of them
    abbrev pub AreSome : (ℕ → Bool) → Type 0
    AreSome out = (y : ℕ) → out y ≡ true → whole y ≡ true

    -- one statement is run, and these are not at home yet
    pub record StatementRun (depth : ℕ) (out : ℕ → Bool) (s : StraightTree) (rest : StraightBlock)
        (value : Option TermTree) : Type 0 where
      pub left : ℕ → Bool
      pub fewer_left : (y : ℕ) → left y ≡ true → out y ≡ true
      pub fresh : (y : ℕ) → left y ≡ true → is_fresh y rest value ≡ true
      pub runs : Steps_on depth out left s

    abbrev code_after : ℕ → ℕ → StraightBlock → List Instr
    code_after depth passed b = code_behind (layout_of z) depth passed b

    -- what statements behind so many make of a state in which these are not at home yet
    abbrev Blocks_on : ℕ → (ℕ → Bool) → ℕ → StraightBlock → Type 0
    Blocks_on depth out passed b = Runs z (32 * block_work z.counts (behind passed b))
        (λ env. path_along env (behind passed b)) (code_after depth passed b) (Ready (fewer z out))
        (Made depth out (λ env. after_all env (behind passed b)))

    -- a statement that they pass leaves them all
    leaves : (depth : ℕ) (out : ℕ → Bool) (s : StraightTree) (rest : StraightBlock) (value : Option TermTree)
        → ((y : ℕ) → out y ≡ true → is_fresh y (first s rest) value ≡ true)
        → ((y : ℕ) → out y ≡ true → sets_fresh y s ≡ false)
        → (((y : ℕ) → out y ≡ true → passes y s ≡ true) → Steps_on depth out out s)
        → StatementRun depth out s rest value
    leaves depth out s rest value fresh off runs =
        let ways = λ (y : ℕ) (on : out y ≡ true).
        passed (sets_fresh y s) (passes y s) (is_fresh y rest value) (off y on) (fresh y on) in
        record {
          left = out;
          fewer_left = λ y on. on;
          fresh = λ y on. (ways y on).1;
          runs = runs (λ y on. (ways y on).0);
        }

    -- the same where those have no homes
    shown_in : (depth : ℕ) (out : ℕ → Bool) {n : ℕ} {is : List Instr} {path : StraightState → Path}
        (made : StraightState → StraightState)
        → Runs z n path is (Ready (fewer z out)) (Made depth out made)
        → Runs (fewer z out) n path is (Ready (fewer z out)) (StateShown (fewer z out) depth made)
    shown_in depth out made one =
        in_fewer z out
        (gives (λ env s t fine ready done. record { ready = done.0; hidden = done.1 }) one)

    -- the first statement is run, or the word is stored that the first four put
    module _ (depth : ℕ) (within : depth ≤ z.depths) (out : ℕ → Bool) (some : AreSome out) (s : StraightTree)
        (rest : StraightBlock) (fresh : (y : ℕ) → out y ≡ true → is_fresh y (first s rest) None ≡ true)
        (typed : AreTyped z.code.profile z.declared z.controls (first s rest))
        (one : length (code_of depth s) < far → StatementRun depth out s rest None)
        (next : (left : ℕ → Bool) → AreSome left → (passed : ℕ)
        → ((y : ℕ) → left y ≡ true → is_fresh y (behind passed rest) None ≡ true)
        → length (code_after depth passed rest) < far → Blocks_on depth left passed rest) where
      abbrev all : StraightBlock
      all = first s rest

      abbrev coded : Option WordPut → List Instr
      coded o = code_by o (λ word. word_code (layout_of z) word ++ code_after depth 3 rest)
          (code_of depth s ++ code_after depth 0 rest)

      by_word : (o : Option WordPut) → word_put z.laid a all ≡ o → length (coded o) < far
          → Runs z (32 * block_work z.counts all) (λ env. path_along env all) (coded o) (Ready (fewer z out))
          (Made depth out (λ env. after_all env all))
      by_word None is few =
          let step = one (omega (arith, length-append {A = Instr}, few)) in
          let fewer_some : AreSome step.left = λ y on. some y (step.fewer_left y on) in
          cheaper (omega arith)
          (gives
          (λ env s' t fine ready done. (
            ready_left z step.left out step.fewer_left (λ y on. variables y (some y on))
                (λ y home d on at known. bare y home d (some y on) at known) (after_all (after env s) rest) t done.second.0,
            hidden_then z depth s' done.middle t done.first.1 done.second.1,
          ))
          (seq step.runs
          (beside (λ env. after env s)
          (next step.left fewer_some 0 step.fresh (omega (arith, length-append {A = Instr}, few))))
          (λ env s' t ready done. done.0)))
      by_word (Some word) is few =
          let run = front_run z depth within out (λ y on. variables y (some y on)) all None word is fresh
          (front_typed z.code.profile z.declared z.controls 4 all typed) in
          cheaper (omega (arith, work_parts z.counts 4 all))
          (along (λ env. path_parts 4 all env)
          (gives
          (λ env s' t fine ready done. (
            subst (λ (e : StraightState). Ready (fewer z out) e t) (sym (after_parts 4 all env)) done.second.0,
            hidden_then z depth s' done.middle t done.first.1 done.second.1,
          ))
          (seq run.runs
          (beside (λ env. after_all env (front 4 all))
          (next out some 3 run.fresh (omega (arith, length-append {A = Instr}, few))))
          (λ env s' t ready done. done.0))))

      chosen : length (code_after depth 0 all) < far → Blocks_on depth out 0 all
      chosen few = by_word (word_put z.laid a all) refl few

    mutual
      pub stepped : (depth : ℕ) (out : ℕ → Bool) → AreSome out → (s : StraightTree) (rest : StraightBlock)
          (value : Option TermTree)
          → ((y : ℕ) → out y ≡ true → is_fresh y (first s rest) value ≡ true)
          → IsTyped z.code.profile z.declared z.controls s → ReadsKept a.unread s
          → base + 4 * slots_to a.count (height_in s) ≤ z.size → depth + depth_in s ≤ z.depths
          → length (code_of depth s) < far → StatementRun depth out s rest value
      stepped depth out some (set None x e) rest value fresh typed read room within few = by_test (out x) refl
        where
          by_test : (b : Bool) → out x ≡ b → StatementRun depth out (set None x e) rest value
          by_test true is = record {
            left = without out x;
            fewer_left = λ y on. (both_true (y == x) (out y) on).1;
            fresh = λ y on.
                let both = both_true (y == x) (out y) on in
                later (x == y) (names_in y e) (is_fresh y rest value)
                (ne_eqb x y (λ same. eqb-false y x both.0 (sym same))) (fresh y both.1);
            runs = fresh_runs depth out (λ y on. variables y (some y on)) x e typed.1
                (λ y on. not_read (x == y) (names_in y e) (is_fresh y rest value) (fresh y on)) room
                (omega (arith, within)) few (home_of a.homes x) refl;
          }
          by_test false is =
              leaves depth out (set None x e) rest value fresh
              (λ y on. and_left (x == y) (not (names_in y e))
              (ne_eqb x y (λ same. true≢false (sym on ∙ (ap out (sym same) ∙ is)))))
              (λ free. kept_runs depth out (λ y on. variables y (some y on)) (set None x e) tt free typed read room
              within few)
      stepped depth out some (set (Some c) x e) rest value fresh typed read room within few =
          leaves depth out (set (Some c) x e) rest value fresh (λ y on. refl)
          (λ free. kept_runs depth out (λ y on. variables y (some y on)) (set (Some c) x e) tt free typed read room
          within few)
      stepped depth out some (array x size values) rest value fresh typed read room within few =
          leaves depth out (array x size values) rest value fresh (λ y on. refl)
          (λ free. kept_runs depth out (λ y on. variables y (some y on)) (array x size values) tt free typed read room
          within few)
      stepped depth out some (put c place x size index e) rest value fresh typed read room within few =
          leaves depth out (put c place x size index e) rest value fresh (λ y on. refl)
          (λ free. kept_runs depth out (λ y on. variables y (some y on)) (put c place x size index e) tt free typed read
          room within few)
      stepped depth out some (take c enclosing condition) rest value fresh typed read room within few =
          leaves depth out (take c enclosing condition) rest value fresh (λ y on. refl)
          (λ free. kept_runs depth out (λ y on. variables y (some y on)) (take c enclosing condition) tt free typed read
          room within few)
      stepped depth out some (branch condition accepted otherwise) rest value fresh typed read room within few =
          leaves depth out (branch condition accepted otherwise) rest value fresh (λ y on. refl)
          (λ free.
          let inside = λ (y : ℕ) (on : out y ≡ true). and_parts _ _ (free y on) in
          let arms = λ (y : ℕ) (on : out y ≡ true). and_parts _ _ (inside y on).1 in
          let unnamed = λ (y : ℕ) (on : out y ≡ true). not-true (names_in y condition) (inside y on).0 in
          let below = λ (y : ℕ) (on : out y ≡ true). variables y (some y on) in
          let xs = code_after depth 0 accepted in
          let ys = code_after depth 0 otherwise in
          let spans = branching_spans (layout_of z) condition xs ys in
          let near : AreNear (length xs) (length ys) = omega (arith, spans.0, few) in
          as_code (sym (branching_same (layout_of z) out below condition xs ys unnamed))
          (cheaper (omega arith)
          (gives (λ env s t fine ready done. (done.ready, done.hidden))
          (in_all z out
          (branching_runs (fewer z out) depth condition (labelled Boolean Public) accepted otherwise
          (32 * block_work z.counts accepted) (32 * block_work z.counts otherwise)
          (own_typed out z.code.profile z.declared (typed_as z out) (typed_same z out) typed.0 unnamed)
          (omega (arith, room)) (omega (arith, within)) near
          (shown_in depth out (λ env. after_all env accepted)
          (blocks depth out some 0 accepted (λ y on. (arms y on).0) typed.1 read.0 (omega (arith, room))
          (omega (arith, within)) (omega (arith, near))))
          (shown_in depth out (λ env. after_all env otherwise)
          (blocks depth out some 0 otherwise (λ y on. (arms y on).1) typed.2 read.1 (omega (arith, room))
          (omega (arith, within)) (omega (arith, near)))))))))
      stepped depth out some (repeats x low high body) rest value fresh typed read room within few =
          elim (cases_Bool (out x)) [
            | inl chosen ↦
                let left = without out x in
                let apart = λ (y : ℕ) (on : left y ≡ true). both_true (y == x) (out y) on in
                let ways = λ (y : ℕ) (on : left y ≡ true).
                passed (sets_fresh y (repeats x low high body)) (passes y (repeats x low high body)) (is_fresh y rest value)
                (and_left (x == y) (is_certain low high) (ne_eqb x y (λ e. eqb-false y x (apart y on).0 (sym e))))
                (fresh y (apart y on).1) in
                let certain = counter_fresh (x == x) (is_certain low high) (names_in x low || names_in x high)
                (is_fresh x body None) (is_fresh x rest value) (eq-eqb x x refl) (fresh x chosen) in
                let fewer_some : AreSome left = λ y on. some y (apart y on).1 in
                let ys = code_after (depth + 1) 0 body in
                let spans = repeat_spans (layout_of z) depth x ys low high (any_sets x body) in
                record {
                  left = left;
                  fewer_left = λ y on. (apart y on).1;
                  fresh = λ y on. (ways y on).1;
                  runs = cheaper (omega (arith, height low))
                      (counter_runs depth out (λ y on. variables y (some y on))
                      (λ y home d on at known. bare y home d (some y on) at known) x low high body certain typed
                      (omega (arith, room)) (omega (arith, room)) (omega (arith, within)) (32 * block_work z.counts body)
                      (shown_in (depth + 1) left (λ env. after_all env body)
                      (blocks (depth + 1) left fewer_some 0 body (λ y on. (and_parts _ _ (ways y on).0).1) typed.3 read
                      (omega (arith, room)) (omega (arith, within)) (omega (arith, spans.0, few))))
                      few (home_of a.homes x) refl);
                }
            | inr unset ↦
                leaves depth out (repeats x low high body) rest value fresh
                (λ y on. and_left (x == y) (is_certain low high)
                (ne_eqb x y (λ same. true≢false (sym on ∙ (ap out (sym same) ∙ unset)))))
                (λ free.
                let inside = λ (y : ℕ) (on : out y ≡ true). and_parts _ _ (free y on) in
                let parts = λ (y : ℕ) (on : out y ≡ true).
                neither_of_three _ _ _ (not-true ((x == y) || (names_in y low || names_in y high)) (inside y on).0) in
                let counter = λ (y : ℕ) (on : out y ≡ true). (parts y on).0 in
                let first_bound = λ (y : ℕ) (on : out y ≡ true). (parts y on).1 in
                let last_bound = λ (y : ℕ) (on : out y ≡ true). (parts y on).2 in
                let below = λ (y : ℕ) (on : out y ≡ true). variables y (some y on) in
                let ys = code_after (depth + 1) 0 body in
                let spans = repeat_spans (layout_of z) depth x ys low high (any_sets x body) in
                let same = repeat_same (layout_of z) out below depth x low high (any_sets x body) ys counter first_bound
                last_bound in
                as_code (sym same)
                (cheaper (omega (arith, height low))
                (gives (λ env s t fine ready done. (done.ready, done.hidden))
                (in_all z out
                (loops_run (fewer z out) depth x (omega (arith, within)) low high body (32 * block_work z.counts body)
                (known_typed out z.code.profile z.declared (typed_as z out) (typed_same z out) x counter typed.2)
                (own_typed out z.code.profile z.declared (typed_as z out) (typed_same z out) typed.0 first_bound)
                (own_typed out z.code.profile z.declared (typed_as z out) (typed_same z out) typed.1 last_bound)
                (omega (arith, room)) (omega (arith, room))
                (shown_in (depth + 1) out (λ env. after_all env body)
                (blocks (depth + 1) out some 0 body (λ y on. (inside y on).1) typed.3 read (omega (arith, room))
                (omega (arith, within)) (omega (arith, spans.0, few))))
                (subst (λ (is : List Instr). length is < far) (sym same) few))))))
          ]

      -- statements behind so many, one after the other: those that came home are left out again behind them
      pub blocks : (depth : ℕ) (out : ℕ → Bool) → AreSome out → (passed : ℕ) (b : StraightBlock)
          → ((y : ℕ) → out y ≡ true → is_fresh y (behind passed b) None ≡ true)
          → AreTyped z.code.profile z.declared z.controls b → AllReadKept a.unread b
          → base + 4 * slots_to a.count (height_in_all b) ≤ z.size → depth + depth_in_all b ≤ z.depths
          → length (code_after depth passed b) < far → Blocks_on depth out passed b
      blocks depth out some zero nothing fresh typed read room within few =
          idle (λ env s ready. (ready, λ o low high. refl))
      blocks depth out some (suc passed) nothing fresh typed read room within few =
          idle (λ env s ready. (ready, λ o low high. refl))
      blocks depth out some (suc passed) (first s rest) fresh typed read room within few =
          blocks depth out some passed rest fresh typed.1 read.1 (omega (arith, room)) (omega (arith, within)) few
      blocks depth out some zero (first s rest) fresh typed read room within few =
          chosen depth (omega (arith, within)) out some s rest fresh typed
          (λ small. stepped depth out some s rest None fresh typed.0 read.0 (omega (arith, room)) (omega (arith, within))
          small)
          (λ left less passed new small. blocks depth left less passed rest new typed.1 read.1 (omega (arith, room))
          (omega (arith, within)) small)
          few
