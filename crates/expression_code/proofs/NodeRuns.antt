-- The code of an operator, a choice or an element puts its value where it is found, where the code of its operands does.
use Rattle.std.proofs.Common.{◌≡◌, ℕ, ◌+◌, ◌-◌, ◌*◌, ◌%◌, ◌^◌, ◌<◌, ◌≤◌, true, List, [], ◌++◌, length, Option, None}
use Rattle.std.proofs.Common.{Some, slice_get, slice_index, refl, sym, ap, ap₂, ◌∙◌, arith, Bool, append-nil, false}
use Rattle.std.proofs.Common.{inl, if◌then◌else◌, ◌==◌, IfSome, is_some, length-append, subst, ◌∷◌}
use Rattle.expression_code.proofs.Below.{along, at_home, array_as, as_code, binary, BinaryOperator}
use Rattle.expression_code.proofs.Below.{by_test, near_place, Profile, State, StraightState, cheaper}
use Rattle.expression_code.proofs.Below.{Boolean, choice_code, choice_or_zero_code, chooses_zero, Label}
use Rattle.expression_code.proofs.Below.{constant_code, copy_code, Kind, element_code, expr_code}
use Rattle.expression_code.proofs.Below.{fetch_code, home_of, InSlot, Instr, into_by, into_code}
use Rattle.expression_code.proofs.Below.{left_row, lt-ltb, move_code, none, opposite_in, placed_code}
use Rattle.expression_code.proofs.Below.{number_at, number_code, number_row, NumberRow, of_binary}
use Rattle.expression_code.proofs.Below.{of_variable, operand, operated, Path, path_in, Place, right_row}
use Rattle.expression_code.proofs.Below.{select, term_nodes, TermTree, types_of, value_in, Values}
use Rattle.expression_code.proofs.Below.{variable, variable_offset, weaken, Width, width_of}
use Rattle.expression_code.proofs.Below.{only_computes, registers_after, word_as, WordType}
use Rattle.expression_code.proofs.Below.{working_register, code_by, element, indexed, near_code}
use Rattle.expression_code.proofs.Below.{before_code, both_right, false≢true, is_sign, prefix}
use Rattle.expression_code.proofs.Below.{PrefixOperator, prefix_value, sign_code, kind_at, load_code}
use Rattle.expression_code.proofs.Below.{rotate, rotate_code, convert, convert_code}
use Rattle.expression_code.proofs.Events.{by_index}
use Rattle.expression_code.proofs.Fitting.{value_fits}
use Rattle.expression_code.proofs.Frame.{After, Before, Setting, Steps, base_of, by_option, Runs, HeldAt}
use Rattle.expression_code.proofs.Frame.{terms_at}
use Rattle.expression_code.proofs.WorkRegisters.{place_works, IsFree, ArePair, IsTarget, free_from}
use Rattle.expression_code.proofs.WorkRegisters.{working_free, operand_apart, works_at, low_at}
use Rattle.expression_code.proofs.WorkRegisters.{target_works, spare_works, not_written, operand_not}
use Rattle.expression_code.proofs.Arithmetic.{chosen, chosen_or_zero, choice, choice_or_zero, if_not}
use Rattle.expression_code.proofs.Arithmetic.{picks}
use Rattle.expression_code.proofs.BoolCode.{IsOpposite, opposite_known}
use Rattle.expression_code.proofs.Moves.{is_written, take, move_runs}
use Rattle.expression_code.proofs.NumberCode.{known, known_word, left_known, number_means, right_known}
use Rattle.expression_code.proofs.NumberCode.{row_quiet, swapped_quiet, swapped_same, zero_known}
use Rattle.expression_code.proofs.NumberCode.{number_known}
use Rattle.expression_code.proofs.Operands.{RegisterOutcome, took, worked, emitted_runs}
use Rattle.expression_code.proofs.OperatorCode.{Applies, constant_plain, constant_after, move_applies}
use Rattle.expression_code.proofs.OperatorCode.{prefix_applies, sign_applies, choice_made}
use Rattle.expression_code.proofs.OperatorCode.{choice_or_zero_made, convert_applies, rotate_applies}
use Rattle.expression_code.proofs.Places.{kind_known}
use Rattle.expression_code.proofs.TermLengths.{height, constant_length, move_length, mask_length}
use Rattle.expression_code.proofs.TermLengths.{number_length, prefix_length, convert_length}
use Rattle.expression_code.proofs.TermLengths.{rotate_length}
use Rattle.expression_code.proofs.Values.{array_lies, Leaves, Ready, ValuedIn, place_ends, value_word}
use Rattle.expression_code.proofs.Elements.{near_runs, picked}
use Rattle.expression_code.proofs.OperandRuns.{found, found_apart, found_free, HasSlot, Lies, made}
use Rattle.expression_code.proofs.OperandRuns.{OperandsFetched, none_yet, one_fetched, one_more}
use Rattle.expression_code.proofs.OperandRuns.{operands, Slots, steps_of, still_ready, Typed, found_is}
use Rattle.expression_code.specs.Below.{Makes, operation_of, ShiftRight, Uint32, W32}
use Rattle.language.specs.declared.operators.PrefixOperator.TheVariants.{Negate}
use Rattle.expression_code.proofs.Indices.{IsPart}
use Rattle.expression_code.proofs.Mirrors.{place_reached}
use Rattle.expression_code.proofs.JoinedWords.{word_marked}
use Rattle.expression_code.specs.FrameBytes.{joined_word}

module _ (z : Setting) (free : ℕ) (aligned : free % 4 ≡ 0) (above : base_of z ≤ free) where
  abbrev pub slots : Slots
  slots = record { z = z; free = free; aligned = aligned; above = above }

  -- how many temporaries have registers
  abbrev pub count : ℕ
  count = z.allocation.count

  few : count ≤ 16
  few = z.allocated.few

  -- the code of an expression at a place, and what fetches it into a spare register
  abbrev pub placed_at : ℕ → TermTree → List Instr
  placed_at place e = expr_code (terms_at z free) place e

  abbrev pub fetched : ℕ → TermTree → ℕ → List Instr
  fetched place e spare = fetch_code (operand (terms_at z free) place e) spare

  -- what is known of the values that are there
  fits : {e : TermTree} {word : WordType} → Typed slots e word → (env : StraightState) (s : State) → Ready z env s
      → value_in env.variables e < 2 ^ 32
  fits {e = e} {word = word} has env s ready = value_word z.code.profile z.declared e word env.variables ready.fits has

  -- Into a register.
  module _ (place d : ℕ) (target : IsTarget count place d) where
    abbrev pub works : ℕ → Bool
    works = works_at count place d

    none_low : (q : ℕ) → q < 5 → works q ≡ false
    none_low q low = low_at count place d q target.free.low low

    own : works d ≡ true
    own = target_works count place d

    spare : ArePair d 30
    spare = record { one = target.free; other = free_from 30 (omega arith) (omega arith); apart = target.no_spare }

    spare_own : works 30 ≡ true
    spare_own = spare_works count place d 30 (omega arith)

    -- the register of the next place, which operators may write
    abbrev pub next : ℕ
    next = working_register count (place + 1) 30

    pair : ArePair d next
    pair = record {
      one = target.free;
      other = working_free count (place + 1) 30 few (omega arith) (omega arith);
      apart = target.no_next;
    }

    next_own : works next ≡ true
    next_own = place_works count place d (place + 1) 30 (omega arith) (omega arith)

    -- within so many steps its value comes into the register
    abbrev pub Comes : TermTree → ℕ → List Instr → Type 0
    Comes e n is = Runs z n (steps_of e) is (Ready z) (ValuedIn z e free d place)

    -- Operands, and then code that computes a value from their registers.
    computed : (e : ℕ → TermTree) {whole : TermTree} {k n m : ℕ} {a : Steps} {xs : List Instr} (is : List Instr)
        → only_computes works is ≡ true → Runs z m a xs (Ready z) (OperandsFetched slots place e k n)
        → ((env : StraightState) (s u : State) → Ready z env s → OperandsFetched slots place e k n env s u
        → registers_after is u.regs d ≡ value_in env.variables whole)
        → Runs z (m + length is) a (xs ++ is) (Ready z) (ValuedIn z whole free d place)
    computed e {whole = whole} {a = a} is plain runs value =
        along (λ env. sym (append-nil (a env)))
        (made slots place e d runs
        (worked z works none_low
        {P = λ env s. HeldAt z s × (registers_after is s.regs d ≡ value_in env.variables whole)}
        d is plain (λ env. value_in env.variables whole) (λ env s given. given))
        (λ env s u ready done. (done.held, value env s u ready done)))

    -- A constant, which each state gives the expression.
    pub constant : {e : TermTree} (n : ℕ) → ((m : Values) → value_in m e ≡ n) → n < 2 ^ 32
        → Runs z 13 none (constant_code d n) (Ready z) (ValuedIn z e free d place)
    constant {e = e} n is below =
        cheaper (omega (arith, constant_length d n))
        (computed (λ j. e) (constant_code d n) (constant_plain works d n own target.free.small)
        (none_yet slots place (λ j. e))
        (λ env s u ready done.
        is_written u.regs d n (constant_after d n target.free.nonzero below u.regs) target.free.nonzero
        ∙ sym (is env.variables)))

    -- A variable, from its slot or its home.
    pub copied : {x : ℕ} {word : WordType} {mutable : Bool} → slice_get z.declared x ≡ Some (word_as word mutable)
        → (h : Option ℕ) → home_of z.allocation.homes x ≡ h
        → Runs z 3 none (copy_code d (at_home h (InSlot (variable_offset z.laid x)))) (Ready z)
        (λ env s t. RegisterOutcome z works d (value_in env.variables (variable x)) s t)
    copied {x = x} {word = word} {mutable = mutable} is None at =
        let v = word_as word mutable in
        let o = variable_offset z.laid x in
        let first : o + 4 * 0 ≡ o = omega arith in
        weaken
        (λ env s fine ready. ready.held)
        (λ env s t fine ready moved.
        let got = took z d o (slice_index (env.variables x) 0) env s t target.free.nonzero
        (ap (λ a. number_at s.bytes 4 (z.frame + a)) (sym first)
        ∙ ready.variables_there x v 0 is at (omega arith)) moved in
        let others : Leaves works s t = λ q h. got.others q (not_written works q d h own) in
        assumption)
        (move_runs z (take d o) (simp (lt-ltb 4 d target.free.low, lt-ltb d 32 target.free.small))
        (omega arith, omega (arith, place_ends z x v 0 (z.lies x v is at) (omega arith))))
    copied {x = x} {word = word} {mutable = mutable} is (Some home) at =
        let there = z.allocated.allowed x home at in
        let source : IsFree home = free_from home (omega arith) (omega arith) in
        let moves = move_applies spare works own spare_own source in
        cheaper (omega (arith, move_length d home))
        (worked z works none_low {P = Ready z} d (move_code d home) moves.plain
        (λ env. slice_index (env.variables x) 0)
        (λ env s ready.
        let here = ready.homes_there x home (word_as word mutable) is at in
        let small = fits (of_variable {mutable = mutable} is) env s ready in
        (ready.held, moves.made s.regs (omega (arith, here, small)) ∙ here)))

    -- A value, and then few instructions that make another of it.
    applied : {e whole : TermTree} {one : WordType} → Typed slots e one → HasSlot slots place
        → {is : List Instr} {f : ℕ → ℕ} → length is ≤ 7 → Applies works (found slots place e 29) (2 ^ 32) d is f
        → ((m : Values) → f (value_in m e) ≡ value_in m whole)
        → Lies slots e place
        → Runs z (16 * (1 + term_nodes e) - 3) (steps_of e) (placed_at place e ++ fetched place e 29 ++ is) (Ready z)
        (ValuedIn z whole free d place)
    applied {e = e} has room {is = is} {f = f} short makes same runs =
        cheaper (omega arith)
        (computed (λ j. e) is makes.plain
        (one_fetched slots place (λ j. e) 0 (omega arith) (omega arith) room
        (one_more slots place (λ j. e) 0 (none_yet slots place (λ j. e)) runs))
        (λ env s u ready done.
        let there = done.fetched 0 (omega arith) in
        makes.made u.regs (omega (arith, there, fits has env s ready)) ∙ (ap f there ∙ same env.variables)))

    -- An operator before a value.
    pub before_runs : {e : TermTree} {one : WordType} (operator : PrefixOperator) (width : Width) → Typed slots e one
        → HasSlot slots place → Lies slots e place
        → Comes (prefix operator width e) (16 * (1 + term_nodes e) - 3)
        (before_code (terms_at z free) d place operator width e
        (into_code (terms_at z free) (working_register count place 29) place e))
    before_runs {e = e} operator width has room runs =
        let r = found slots place e 29 in
        applied has room (omega (arith, prefix_length z.allocation.immediates d r operator width))
        (prefix_applies spare works own spare_own (found_free slots place 0 e (omega arith)) z.allocation.immediates
        operator width)
        (λ m. refl)
        runs

    -- A rotation of a value.
    pub rotated_runs : {e : TermTree} {one : WordType} (width : Width) (amount : ℕ) → Typed slots e one
        → HasSlot slots place → Lies slots e place
        → Comes (rotate width e amount) (16 * (1 + term_nodes e) - 3)
        (placed_at place e ++ fetched place e 29 ++ rotate_code d (found slots place e 29) width amount)
    rotated_runs {e = e} width amount has room runs =
        let r = found slots place e 29 in
        let apart = operand_not count place 29 30 r few (omega arith) (omega arith) (found_is slots place e 29) in
        applied has room (rotate_length d r width amount)
        (rotate_applies spare works own spare_own (found_free slots place 0 e (omega arith)) apart width amount)
        (λ m. refl) runs

    -- A conversion of a value that may cut it.
    pub cut_runs : {e : TermTree} {one : WordType} (kind : Kind) → Typed slots e one → HasSlot slots place
        → Lies slots e place
        → Comes (convert kind e) (16 * (1 + term_nodes e) - 3)
        (placed_at place e ++ fetched place e 29 ++ convert_code d (found slots place e 29) (width_of kind))
    cut_runs {e = e} kind has room runs =
        let r = found slots place e 29 in
        applied has room (omega (arith, convert_length d r (width_of kind)))
        (convert_applies spare works own spare_own (found_free slots place 0 e (omega arith)) (width_of kind))
        (λ m. refl) runs

    -- 0 less a word that is moved down by 31 bits: its sign.
    pub sign_runs : (source : Place) (operator : PrefixOperator) (width : Width) (shift : BinaryOperator) (narrow : Width)
        {left right : TermTree} {one : WordType} → is_sign z.allocation operator width shift right ≡ true
        → Typed slots left one → HasSlot slots place → Lies slots left place
        → Comes (prefix operator width (binary source shift narrow left right)) (16 * (1 + term_nodes left) - 3)
        (placed_at place left ++ fetched place left 29 ++ sign_code d (found slots place left 29))
    sign_runs source Negate W32 ShiftRight narrow {left = left} {right = right} is has room runs =
        let k = known right 31 (number_known 31 right (both_right z.allocation.immediates _ is)) in
        along (λ env. ap (λ (p : Path). path_in env.variables left ++ p ++ []) (k env.variables).1
        ∙ (append-nil (path_in env.variables left ++ []) ∙ append-nil (path_in env.variables left)))
        (applied has room (omega arith)
        (sign_applies spare works own spare_own (found_free slots place 0 left (omega arith)) narrow)
        (λ m. ap (λ n. prefix_value Negate W32 (operated ShiftRight narrow (value_in m left) n)) (sym (k m).0))
        runs)
    sign_runs source operator width shift narrow is has room runs = absurd (false≢true is)

    -- A value, and then an operator between it and a number.
    with_number : {e whole : TermTree} {one : WordType} (operator : BinaryOperator) (w : Width) (n : ℕ) → n < 2 ^ 32
        → (row : NumberRow) → number_row operator n ≡ Some row
        → ((m : Values) → (operated operator w (value_in m e) n ≡ value_in m whole) × (path_in m whole ≡ path_in m e))
        → Typed slots e one → HasSlot slots place → Lies slots e place
        → Comes whole (16 * (1 + term_nodes e) - 3)
        (placed_at place e ++ fetched place e 29 ++ number_code d (found slots place e 29) w row)
    with_number {e = e} operator w n fits row is same has room runs =
        let r = found slots place e 29 in
        let means =
        number_means spare works own spare_own (found_free slots place 0 e (omega arith)) operator n fits row is in
        along (λ env. (same env.variables).1)
        (applied has room (omega (arith, number_length d r w row)) (means w)
        (λ m. (same m).0) runs)

    -- An operator that joins bytes to a word, which is taken from where it lies.
    joined_runs : (source : Place) (operator : BinaryOperator) (width : Width) {left right : TermTree}
        {one other : WordType} → Typed slots left one → Typed slots right other → (o : ℕ)
        → joined_word z.laid z.allocation operator width left right ≡ Some o
        → Comes (binary source operator width left right) 3 (load_code d o)
    joined_runs source operator width {left = left} {right = right} has more o is =
        let e = binary source operator width left right in
        along (λ env. sym (append-nil (path_in env.variables e)))
        (word_marked z 3 (load_code d o) (ValuedIn z e free d place) source operator width has more o is none
        (λ word. made slots place (λ j. e) d (none_yet slots place (λ j. e))
        (weaken
        (λ env s fine ready. ready.held)
        (λ env s t fine ready moved.
        let got = took z d o (value_in env.variables e) env s t target.free.nonzero (word.there env s ready) moved in
        let others : Leaves works s t = λ q h. got.others q (not_written works q d h own) in
        assumption)
        (move_runs z (take d o) (simp (lt-ltb 4 d target.free.low, lt-ltb d 32 target.free.small))
        (word.even, word.inside)))
        (λ env s t ready done. still_ready slots place env s t ready done.held done.kept done.lower)))

    -- An operator between two operands, where either may be in its instruction, unless it joins bytes to a word.
    pub operated_runs : (source : Place) (operator : BinaryOperator) (width : Width) {left right : TermTree}
        {profile : Profile} {one other made' : WordType}
        → Typed slots left one → Typed slots right other → Makes profile (operation_of operator) one other made'
        → HasSlot slots (place + 1) → Lies slots left place → Lies slots right place → Lies slots right (place + 1)
        → Comes (binary source operator width left right) (16 * (1 + term_nodes left + term_nodes right) - 3)
        (into_code (terms_at z free) d place (binary source operator width left right))
    operated_runs source operator width {left = left} {right = right} has more makes room first alone second =
        let e = operands left right right in
        by_option (joined_word z.laid z.allocation operator width left right)
        (λ o is. cheaper (omega arith) (joined_runs source operator width has more o is))
        (λ apart. by_option (right_row z.allocation operator right)
        (λ row is.
        let numbered = right_known z.allocation operator right row is in
        cheaper (omega arith)
        (with_number operator width numbered.n (known_word more numbered.n numbered.is) row numbered.row_is
        (λ m.
        let k = known right numbered.n numbered.is m in (
          ap (operated operator width (value_in m left)) (sym k.0),
          ap₂ (λ (p q : Path). path_in m left ++ p ++ q) k.1
              (row_quiet source (value_in m left) (value_in m right) operator numbered.n row numbered.row_is)
              ∙ (append-nil (path_in m left ++ []) ∙ append-nil (path_in m left)),
        ))
        has (omega arith) first))
        (λ not_right. by_option (left_row z.allocation operator left)
        (λ row is.
        let swapped = left_known z.allocation operator left row is in
        let numbered = swapped.numbered in
        cheaper (omega arith)
        (with_number swapped.other width numbered.n (known_word has numbered.n numbered.is) row numbered.row_is
        (λ m.
        let k = known left numbered.n numbered.is m in (
          ap (operated swapped.other width (value_in m right)) (sym k.0)
              ∙ swapped_same width (value_in m left) (value_in m right) operator swapped.other swapped.is,
          ap₂ (λ (p q : Path). p ++ path_in m right ++ q) k.1
              (swapped_quiet source (value_in m left) (value_in m right) operator swapped.other swapped.is)
              ∙ append-nil (path_in m right),
        ))
        more (omega arith) alone))
        (λ not_left.
        cheaper (omega (arith, height left, height right))
        (made slots place e d
        (one_fetched slots place e 1 (omega arith) (omega arith) room
        (one_fetched slots place e 0 (omega arith) (omega arith) (omega arith)
        (one_more slots place e 1 (one_more slots place e 0 (none_yet slots place e) first) second)))
        (emitted_runs z works none_low pair
        (found_free slots place 0 left (omega arith)) (found_free slots place 1 right (omega arith))
        (found_apart slots place 0 1 left (omega arith)) own next_own
        source width (λ env. value_in env.variables left) (λ env. value_in env.variables right) z.allocation operator
        makes)
        (λ env s u ready done. assumption (
          done.fetched 0 (omega arith),
          done.fetched 1 (omega arith),
          fits has env s ready,
          fits more env s ready,
          value_fits (types_of z.code.profile z.declared) env.variables ready.fits has,
          value_fits (types_of z.code.profile z.declared) env.variables ready.fits more,
        ))))))

    -- A choice, which the mask of its condition makes alone where the third operand is 0. The mask is made of the
    -- condition or of its opposite.

    abbrev pub mask : ℕ
    mask = working_register count place 29

    abbrev pub selected : Bool → TermTree → List Instr → TermTree → TermTree → List Instr
    selected is_opposite tested is accepted otherwise =
        let c = found slots place tested 29 in
        let l = found slots (place + 1) accepted 30 in
        if chooses_zero z.allocation otherwise
        then placed_code (terms_at z free) place tested is ++ placed_at (place + 1) accepted
        ++ fetched place tested 29 ++ fetched (place + 1) accepted 30
        ++ choice_or_zero_code is_opposite d mask c l
        else placed_code (terms_at z free) place tested is ++ placed_at (place + 1) accepted
        ++ placed_at (place + 2) otherwise
        ++ fetched place tested 29 ++ fetched (place + 1) accepted 30 ++ fetched (place + 2) otherwise 31
        ++ choice_code is_opposite d mask next c l (found slots (place + 2) otherwise 31)

    pub chosen_runs : (is_opposite : Bool) {tested accepted otherwise whole : TermTree} {kind : Kind} {l m n : Label}
        → Typed slots tested (record { kind = Boolean; label = l })
        → Typed slots accepted (record { kind = kind; label = m })
        → Typed slots otherwise (record { kind = kind; label = n })
        → ((v : Values) → ((if picks is_opposite (value_in v tested) then value_in v accepted else value_in v otherwise)
        ≡ value_in v whole)
        × (path_in v whole ≡ path_in v tested ++ path_in v accepted ++ path_in v otherwise))
        → HasSlot slots (place + 2)
        → Lies slots tested place → Lies slots accepted (place + 1) → Lies slots otherwise (place + 2)
        → Comes whole (16 * (1 + term_nodes tested + term_nodes accepted + term_nodes otherwise) - 3)
        (selected is_opposite tested (into_code (terms_at z free) mask place tested) accepted otherwise)
    chosen_runs is_opposite {tested = tested} {accepted = accepted} {otherwise = otherwise} has chooses more same room
        first second third =
        let e = operands tested accepted otherwise in
        let c = found slots place tested 29 in
        let l = found slots (place + 1) accepted 30 in
        let r = found slots (place + 2) otherwise 31 in
        let mask_free = working_free count place 29 few (omega arith) (omega arith) in
        let mask_works = place_works count place d place 29 (omega arith) (omega arith) in
        let c_free = found_free slots place 0 tested (omega arith) in
        let l_free = found_free slots place 1 accepted (omega arith) in
        let r_free = found_free slots place 2 otherwise (omega arith) in
        let lm = found_apart slots place 1 0 accepted (omega arith) in
        let two = one_more slots place e 1 (one_more slots place e 0 (none_yet slots place e) first) second in
        let value = λ (env : StraightState) (v : TermTree). value_in env.variables v in
        let truth = λ (env : StraightState) (s : State) (ready : Ready z env s).
        value_fits (types_of z.code.profile z.declared) env.variables ready.fits has in
        by_test (chooses_zero z.allocation otherwise)
        (λ is.
        let zero = known otherwise 0 (zero_known z.allocation otherwise is) in
        let masked = choice_or_zero_made spare works own spare_own l_free is_opposite mask_free mask_works c_free lm in
        along (λ env. (same env.variables).1
        ∙ (ap (λ (p : Path). path_in env.variables tested ++ path_in env.variables accepted ++ p)
        (zero env.variables).1 ∙ append-nil (path_in env.variables tested ++ path_in env.variables accepted)))
        (cheaper (omega (arith, length-append {A = Instr}, mask_length is_opposite mask c))
        (computed e (choice_or_zero_code is_opposite d mask c l) masked.0
        (one_fetched slots place e 1 (omega arith) (omega arith) (omega arith)
        (one_fetched slots place e 0 (omega arith) (omega arith) (omega arith) two))
        (λ env s u ready done.
        masked.1 u.regs
        ∙ (ap₂ (chosen_or_zero is_opposite) (done.fetched 0 (omega arith)) (done.fetched 1 (omega arith))
        ∙ (choice_or_zero is_opposite (value env tested) (value env accepted) (omega (arith, truth env s ready))
        (fits chooses env s ready)
        ∙ (ap (λ v. if picks is_opposite (value env tested) then value env accepted else v)
        (sym (zero env.variables).0)
        ∙ (same env.variables).0)))))))
        (λ is.
        let merged = choice_made pair works own next_own r_free is_opposite mask_free mask_works c_free l_free
        (operand_apart count place (place + 1) 29 30 mask few (omega arith) (omega arith) (omega arith) (omega arith)
        (inl refl)) lm
        (found_apart slots place 2 0 otherwise (omega arith)) (found_apart slots place 2 1 otherwise (omega arith)) in
        along (λ env. (same env.variables).1)
        (cheaper (omega (
          arith,
          length-append {A = Instr},
          mask_length is_opposite mask c,
          height tested,
          height accepted,
          height otherwise,
        ))
        (computed e (choice_code is_opposite d mask next c l r) merged.0
        (one_fetched slots place e 2 (omega arith) (omega arith) room
        (one_fetched slots place e 1 (omega arith) (omega arith) (omega arith)
        (one_fetched slots place e 0 (omega arith) (omega arith) (omega arith)
        (one_more slots place e 2 two third))))
        (λ env s u ready done.
        merged.1 u.regs
        ∙ (ap (λ v. chosen is_opposite v (u.regs l) (u.regs r)) (done.fetched 0 (omega arith))
        ∙ (ap₂ (chosen is_opposite (value env tested)) (done.fetched 1 (omega arith)) (done.fetched 2 (omega arith))
        ∙ (choice is_opposite (value env tested) (value env accepted) (value env otherwise)
        (omega (arith, truth env s ready)) (fits chooses env s ready) (fits more env s ready)
        ∙ (same env.variables).0)))))))

    -- the code of the choice is that of the operator that stands for the condition's own
    by_opposite : {n : ℕ} {steps : Steps} {P : Before} {Q : After} (code : Option BinaryOperator → List Instr)
        (o : Option BinaryOperator)
        → ((other : BinaryOperator) → o ≡ Some other → Runs z n steps (code (Some other)) P Q)
        → (o ≡ None → Runs z n steps (code None) P Q)
        → Runs z n steps (code o) P Q
    by_opposite code (Some other) some none = some other refl
    by_opposite code None some none = none refl

    -- A choice by a comparison, whose opposite its mask may be made of.
    pub compared_runs : (source : Place) (operator : BinaryOperator) (width : Width)
        {left right accepted otherwise : TermTree} {one two : WordType} {kind : Kind} {l m n : Label}
        → Typed slots left one → Typed slots right two
        → Makes z.code.profile (operation_of operator) one two (record { kind = Boolean; label = l })
        → width ≡ width_of one.kind
        → Typed slots accepted (record { kind = kind; label = m })
        → Typed slots otherwise (record { kind = kind; label = n })
        → HasSlot slots (place + 2)
        → ((o : BinaryOperator) → Makes z.code.profile (operation_of o) one two (record { kind = Boolean; label = l })
        → Lies slots (binary source o width left right) place)
        → Lies slots accepted (place + 1) → Lies slots otherwise (place + 2)
        → Comes (select (binary source operator width left right) accepted otherwise)
        (16 * (1 + (1 + term_nodes left + term_nodes right) + term_nodes accepted + term_nodes otherwise) - 3)
        (into_code (terms_at z free) d place (select (binary source operator width left right) accepted otherwise))
    compared_runs source operator width {left = left} {right = right} {accepted = accepted} {otherwise = otherwise}
        {one = one} {two = two} {l = l} has other makes same chooses more room first second third =
        let condition = binary source operator width left right in
        by_opposite
        (λ o. selected (is_some o) condition (into_by (terms_at z free) o mask place condition) accepted otherwise)
        (opposite_in z.allocation condition)
        (λ o is.
        let opposite : IsOpposite operator o = subst (λ (x : Option BinaryOperator). IfSome x (IsOpposite operator)) is
        (opposite_known z.allocation source operator width left right) in
        let kept = subst (λ made. Makes z.code.profile made one two (record { kind = Boolean; label = l }))
        (sym opposite.operation) makes in
        chosen_runs true (of_binary {place = source} {operator = o} has other kept same) chooses more
        (λ v.
        let a = value_in v left in
        let b = value_in v right in
        let x = value_in v accepted in
        let y = value_in v otherwise in (
          ap (λ is. if is then x else y) (opposite.denies width a b) ∙ if_not (operated operator width a b == 0) x y,
          ap (λ (p : Path). (path_in v left ++ path_in v right ++ p) ++ path_in v accepted ++ path_in v otherwise)
              (opposite.unmarked source a b),
        ))
        room (first o kept) second third)
        (λ is.
        chosen_runs false (of_binary {place = source} {operator = operator} has other makes same) chooses more
        (λ v. (if_not (value_in v condition == 0) (value_in v accepted) (value_in v otherwise), refl))
        room (first operator makes) second third)

    -- An element at an index of which a part is computed.

    pub reached : (source : Place) {x size : ℕ} {word : WordType} {mutable : Bool}
        → slice_get z.declared x ≡ Some (array_as word mutable size) → {index part : TermTree} {o : ℕ}
        → IsPart z x size word mutable index part o → HasSlot slots place → Lies slots part place
        → Comes (element source x size index) (16 * (1 + term_nodes index) - 3)
        (placed_at place part ++ fetched place part 29
        ++ element_code d (found slots place part 29) (kind_at z.laid x) o)
    reached source {x = x} {size = size} {word = word} {mutable = mutable} is {index = index} {part = part} {o = o}
        computed room runs =
        let e = λ (j : ℕ). part in
        let r = found slots place part 29 in
        let kind = kind_known z.laid x (array_as word mutable size) (array_lies z x size word mutable is) in
        as_code (ap (λ kind. placed_at place part ++ fetched place part 29 ++ element_code d r kind o) kind)
        (along (λ env. ap (λ (p : Path). p ++ indexed source size (value_in env.variables index) ∷ [])
        (computed.path env.variables))
        (cheaper (omega (arith, height part, computed.nodes))
        (made slots place e d (one_fetched slots place e 0 (omega arith) (omega arith) room
        (one_more slots place e 0 (none_yet slots place e) runs))
        (by_index z source size (λ env. value_in env.variables index)
        (λ i below. picked slots place d target r (found_free slots place 0 part (omega arith)) source x size word
        mutable i index part o is below computed))
        (λ env s t ready done. (
          still_ready slots place env s t ready done.held done.kept done.lower,
          done.fetched 0 (omega arith),
        )))))

    -- and at any index, where the access may reach the element at once
    pub near_by : (source : Place) {x size : ℕ} {word type : WordType} {mutable : Bool}
        → slice_get z.declared x ≡ Some (array_as word mutable size) → (index : TermTree) → Typed slots index type
        → type.kind ≡ Uint32 → {far : List Instr}
        → Comes (element source x size index) (16 * (1 + term_nodes index) - 3) far
        → Comes (element source x size index) (16 * (1 + term_nodes index) - 3)
        (code_by (near_place z.laid z.allocation x index) (near_code d (kind_at z.laid x)) far)
    near_by source {x = x} {size = size} {word = word} {mutable = mutable} is index has uint far =
        by_option (near_place z.laid z.allocation x index)
        (λ at near. cheaper (omega (arith, height index))
        (near_runs slots place d target source is at (place_reached z x size word mutable is has uint at near)))
        (λ none. far)
