-- Numbers of one size, one after another, from where x5 is to where x6 is: few by straight code, many by a loop over
-- some at a time up to x7.
use Rattle.std.specs.Prelude.{◌⊎◌, is_some, unwrap_or}
use Rattle.std.proofs.Common.{◌≡◌, ◌≢◌, ℕ, zero, suc, ◌+◌, ◌*◌, ◌/◌, ◌%◌, ◌^◌, ◌<◌, ◌≤◌, ◌==◌, ◌||◌, Bool, true}
use Rattle.std.proofs.Common.{false, nat_lt, if◌then◌else◌, List, [], ◌∷◌, ◌++◌, length, map, inl, inr, refl, sym}
use Rattle.std.proofs.Common.{ap, ◌∙◌, subst, arith, append_assoc, length-append, ne_eqb}
use Rattle.std.proofs.lemmas.Bool.{lt-ltb, ltb-false, ltb-true}
use Rattle.std.proofs.lemmas.Bool.Decides.{nat_tests}
use Rattle.std.proofs.lemmas.List.{length-map, map-append}
use Rattle.expression_code.proofs.program_logic_lemmas.Counted.{as_code, computes_runs, in_steps, loop, makes_then}
use Rattle.expression_code.proofs.program_logic_lemmas.Counted.{no_code}
use Rattle.expression_code.proofs.program_logic_lemmas.Counted.{Runs, Setting, straight_runs, then_runs, weaken_runs}
use Rattle.linked_calls.proofs.Below.{AreApart, AreData, ByteMap, copied_code, copied_steps, Data}
use Rattle.linked_calls.proofs.Below.{element_bytes, elements_code, Instr, Kind, near_address, next_code, number_at}
use Rattle.linked_calls.proofs.Below.{number_or_zero, numbers_at, OthersAsBefore, register_kept}
use Rattle.linked_calls.proofs.Below.{rounds_code, rounds_steps, sign_extended, sum_of, until_equal, unwritten}
use Rattle.linked_calls.proofs.Below.{with_number, with_numbers, with_register, with_result}
use Rattle.linked_calls.proofs.Bytes.{number_beside, number_there, numbers_count, is_some-with_numbers, numbers_more}
use Rattle.linked_calls.proofs.Bytes.{numbers_then}
use Rattle.linked_calls.proofs.CopyElements.{copied_value, element_code, element_even, element_fit, element_lies}
use Rattle.linked_calls.proofs.CopyElements.{element_made, element_met, element_plain, element_size, element_works}
use Rattle.linked_calls.proofs.CopyElements.{elements_fit, few_enough, fewer_fit, left_few, near_elements, next_round}
use Rattle.linked_calls.proofs.CopyElements.{no_round, round_code, round_few, round_inside, round_length, round_some}
use Rattle.linked_calls.proofs.CopyElements.{rounds_fit, rounds_some, rounds_split, some_bytes}
use Rattle.linked_calls.proofs.Parts.{bound_runs, same_number}
use Rattle.linked_calls.proofs.Pieces.{MayAt}
use Rattle.linked_calls.specs.FunctionCode.{bound_code}
use Rattle.linked_calls.specs.Paces.{few_elements, own_round, times}
use Rattle.linked_calls.specs.declared.pace.Pace.{Pace}
use Rattle.linked_calls.specs.declared.round.Round.{Round}
use Rattle.rv_machine.specs.declared.observation.Event.TheVariants as event

-- a register that moves by a number that fits an immediate
near_sum : (x by : ℕ) → by < 2048 → sum_of x (sign_extended 12 by) ≡ (x + by) % 2 ^ 32
near_sum x by near = grind (arith, nat_tests)

-- so many numbers, with x2, and x5 and x6 where the first of them is read and written
pub record Numbers : Type 0 where
  pub kind : Kind
  pub count : ℕ
  pub frame : ℕ
  pub source : ℕ
  pub target : ℕ

abbrev pub bytes_of : Numbers → ℕ
bytes_of numbers = element_bytes numbers.kind * numbers.count

-- they lie so that they can be copied, and their accesses are allowed
pub record CanCopy (z : Setting) (numbers : Numbers) : Type 0 where
  pub source_even : numbers.source % element_bytes numbers.kind ≡ 0
  pub target_even : numbers.target % element_bytes numbers.kind ≡ 0
  pub source_ends : numbers.source + bytes_of numbers ≤ 2 ^ 32
  pub target_ends : numbers.target + bytes_of numbers ≤ 2 ^ 32
  pub few : bytes_of numbers < 2 ^ 32
  pub apart : AreApart (bytes_of numbers) numbers.source numbers.target
  pub loads : MayAt z numbers.frame event.Load numbers.source (numbers.source + bytes_of numbers)
  pub stores : MayAt z numbers.frame event.Store numbers.target (numbers.target + bytes_of numbers)

-- x2, x5 and x6 are there, and what is read and written is data
pub record BeginsCopy (numbers : Numbers) (s : Data) : Type 0 where
  pub stack : s.regs 2 ≡ numbers.frame
  pub source : s.regs 5 ≡ numbers.source % 2 ^ 32
  pub target : s.regs 6 ≡ numbers.target % 2 ^ 32
  pub from_there : AreData numbers.source (numbers.source + bytes_of numbers) s.bytes
  pub to_there : AreData numbers.target (numbers.target + bytes_of numbers) s.bytes

-- the bytes with so many of them copied
abbrev pub copied : Bool → Numbers → ℕ → ByteMap → ByteMap
copied inward numbers i bytes =
    with_numbers bytes (element_bytes numbers.kind) numbers.target
    (map (copied_value inward numbers.kind) (numbers_at bytes (element_bytes numbers.kind) numbers.source i))

-- the bytes are those with all copied
pub record HasCopied (inward : Bool) (numbers : Numbers) (s t : Data) : Type 0 where
  pub bytes : t.bytes ≡ copied inward numbers numbers.count s.bytes
  pub others : OthersAsBefore s t

-- x5 and x6 are so many numbers on, and these and so many more are copied
pub record Copying (inward : Bool) (numbers : Numbers) (base more : ℕ) (s d : Data) : Type 0 where
  pub begins : BeginsCopy numbers s
  pub source : d.regs 5 ≡ (numbers.source + element_bytes numbers.kind * base) % 2 ^ 32
  pub target : d.regs 6 ≡ (numbers.target + element_bytes numbers.kind * base) % 2 ^ 32
  pub others : (q : ℕ) → q ≢ 5 → q ≢ 6 → q ≢ 28 → d.regs q ≡ s.regs q
  pub bytes : d.bytes ≡ copied inward numbers (base + more) s.bytes

module _ (inward : Bool) (z : Setting) (numbers : Numbers) (can : CanCopy z numbers) where
  abbrev kind : Kind
  kind = numbers.kind

  abbrev n : ℕ
  n = element_bytes kind

  abbrev k : ℕ
  k = numbers.count

  abbrev from : ℕ
  from = numbers.source

  abbrev to : ℕ
  to = numbers.target

  abbrev element : ℕ → List Instr
  element = element_code inward kind

  abbrev done : ℕ → ByteMap → ByteMap
  done = copied inward numbers

  -- The elements.

  abbrev Holds : ℕ → ℕ → Data → Data → Type 0
  Holds = Copying inward numbers

  -- from one to another
  abbrev FromCopying : ℕ → ℕ → Data → Type 0
  FromCopying base more d = (s : Data) × Holds base more s d

  abbrev ToCopying : ℕ → ℕ → ℕ → ℕ → Data → Data → Type 0
  ToCopying base more base' more' d t = (s : Data) → Holds base more s d → Holds base' more' s t

  count : (bytes : ByteMap) (i : ℕ) → length (map (copied_value inward kind) (numbers_at bytes n from i)) ≡ i
  count bytes i = length-map (numbers_at bytes n from i) (copied_value inward kind) ∙ numbers_count bytes n from i

  module _ (i : ℕ) (few : i < k) where
    inside : n * i + n ≤ n * k
    inside = elements_fit kind i k few

    -- the next one is not written yet
    unwritten_yet : (bytes : ByteMap) → number_at (done i bytes) n (from + n * i) ≡ number_at bytes n (from + n * i)
    unwritten_yet bytes =
        number_beside bytes n to (map (copied_value inward kind) (numbers_at bytes n from i)) n (from + n * i)
        (by can.apart)
      where
        by : AreApart (n * k) from to → (from + n * i + n ≤ to)
            ⊎ (to + n * length (map (copied_value inward kind) (numbers_at bytes n from i)) ≤ from + n * i)
        by (inl before) = let fits = inside in inl (omega arith)
        by (inr behind) =
            let fits = inside in
            inr (subst (λ x. to + n * x ≤ from + n * i) (sym (count bytes i)) (omega arith))

    one_more : (bytes : ByteMap)
        → with_number (done i bytes) n (to + n * i)
        (copied_value inward kind (number_or_zero (number_at (done i bytes) n (from + n * i))))
        ≡ done (suc i) bytes
    one_more bytes =
        let f = copied_value inward kind in
        let vs = numbers_at bytes n from i in
        let v = unwrap_or (number_at bytes n (from + n * i)) 0 in
        ap (λ x. with_number (done i bytes) n (to + n * i) (f x)) (ap number_or_zero (unwritten_yet bytes)
        ∙ same_number (number_at bytes n (from + n * i)))
        ∙ ap (λ x. with_number (done i bytes) n (to + n * x) (f v)) (sym (count bytes i))
        ∙ sym (numbers_then bytes n to (map f vs) (f v))
        ∙ ap (λ (ws : List ℕ). with_numbers bytes n to ws) (sym (map-append f vs (v ∷ [])))
        ∙ ap (λ (ws : List ℕ). with_numbers bytes n to (map f ws)) (sym (numbers_more bytes n from i))

    source_there : (s d : Data) → BeginsCopy numbers s → d.bytes ≡ done i s.bytes
        → is_some (number_at d.bytes n (from + n * i)) ≡ true
    source_there s d begins made =
        ap (λ (b : ByteMap). is_some (number_at b n (from + n * i))) made
        ∙ ap is_some (unwritten_yet s.bytes)
        ∙ number_there s.bytes n (from + n * i)
        (λ x low high. begins.from_there x (omega arith) (omega (arith, inside)))

    target_there : (s d : Data) → BeginsCopy numbers s → d.bytes ≡ done i s.bytes
        → is_some (number_at d.bytes n (to + n * i)) ≡ true
    target_there s d begins made =
        let fits = inside in
        let done = count s.bytes i in
        let same = is_some-with_numbers s.bytes n to (map (copied_value inward kind) (numbers_at s.bytes n from i))
        (λ x low high. begins.to_there x low (omega (arith, subst (λ c. x < to + n * c) done high, fits))) in
        number_there d.bytes n (to + n * i)
        (λ x low high. ap (λ (b : ByteMap). is_some (b x)) made
        ∙ same x ∙ begins.to_there x (omega arith) (omega arith))

  -- an offset from where x5 or x6 is
  reached : (at offset base more : ℕ) → offset ≡ n * more → more < 16 → base + more < k → at + n * k ≤ 2 ^ 32
      → sum_of ((at + n * base) % 2 ^ 32) (sign_extended 12 offset) ≡ at + n * (base + more)
  reached at offset base more is few inside_all ends =
      let fits = inside (base + more) inside_all in
      let near = near_elements kind more (omega arith) in
      let some = some_bytes kind in
      let at_base : (at + n * base) % 2 ^ 32 ≡ at + n * base = omega arith in
      ap (λ x. sum_of x (sign_extended 12 offset)) at_base
      ∙ near_address (at + n * base) offset (omega arith) (omega arith) ∙ omega arith

  element_runs : (base more offset : ℕ) → offset ≡ n * more → more < 16 → base + more < k
      → Runs z (length (element offset)) (element offset) (FromCopying base more)
      (ToCopying base more base (suc more))
  element_runs base more offset is few all =
      let i = base + more in
      let a = from + n * i in
      let b = to + n * i in
      let fits = inside i all in
      let near = near_elements kind more (omega arith) in
      let plain = element_plain inward kind offset (omega arith) in
      let next : suc (base + more) ≡ base + suc more = omega arith in
      straight_runs z numbers.frame element_works (element offset) (a ∷ b ∷ []) plain refl
      (element_fit (z.allowed numbers.frame) inward kind offset a b
      (record {
        even = element_even kind from i can.source_even;
        allowed = can.loads a (element_size kind)
            (element_lies kind from (from + n * k) a (omega arith) (omega arith));
      })
      (record {
        even = element_even kind to i can.target_even;
        allowed = can.stores b (element_size kind)
            (element_lies kind to (to + n * k) b (omega arith) (omega arith));
      }))
      (λ d given. given.1.others 2 (λ e. omega arith) (λ e. omega arith) (λ e. omega arith) ∙ given.1.begins.stack)
      (λ d given.
      let held = given.1 in
      element_met inward kind offset a b d
      (record {
        is = ap (λ x. sum_of x (sign_extended 12 offset)) held.source
            ∙ reached from offset base more is few all can.source_ends;
        there = source_there i all given.0 d held.begins held.bytes;
      })
      (record {
        is = ap (λ x. sum_of x (sign_extended 12 offset)) held.target
            ∙ reached to offset base more is few all can.target_ends;
        there = target_there i all given.0 d held.begins held.bytes;
      }))
      (λ d given s held.
      let kept = λ (q : ℕ) (other : q ≢ 28).
      register_kept element_works (element offset) (a ∷ b ∷ []) d q plain (ne_eqb q 28 other) in
      record {
        begins = held.begins;
        source = kept 5 (λ e. omega arith) ∙ held.source;
        target = kept 6 (λ e. omega arith) ∙ held.target;
        others = λ q g h l. kept q l ∙ held.others q g h l;
        bytes = element_made inward kind offset a b d
            ∙ ap (λ (m : ByteMap). with_number m n b (copied_value inward kind (number_or_zero (number_at m n a))))
            held.bytes
            ∙ one_more i all s.bytes ∙ ap (λ j. done j s.bytes) next;
      })

  -- so many elements
  elements_run : (count base more offset : ℕ) → offset ≡ n * more → more + count ≤ 16
      → base + more + count ≤ k
      → Runs z (length (elements_code element n offset count)) (elements_code element n offset count)
      (FromCopying base more) (ToCopying base more base (more + count))
  elements_run zero base more offset is few all =
      let e : more ≡ more + 0 = omega arith in
      no_code z (λ d given s held. subst (λ m. Holds base m s d) e held)
  elements_run (suc count) base more offset is few all =
      let e : suc more + count ≡ more + suc count = omega arith in
      makes_more (element offset) (elements_code element n (offset + n) count)
      (then_runs z {S = ToCopying base more base (more + suc count)}
      (element_runs base more offset is (omega arith) (omega arith))
      (elements_run count base (suc more) (offset + n) (omega arith) (omega arith) (omega arith))
      (λ d t given done. (given.0, done given.0 given.1))
      (λ d t u given done rest s held. subst (λ m. Holds base m s u) e (rest s (done s held))))
    where
      makes_more : {P : Data → Type 0} {R : Data → Data → Type 0} (xs ys : List Instr)
          → Runs z (length xs + length ys) (xs ++ ys) P R → Runs z (length (xs ++ ys)) (xs ++ ys) P R
      makes_more xs ys one = in_steps z (sym (length-append xs ys)) one

  -- all are copied
  all_copied : (base more : ℕ) → base + more ≡ k → (s d t : Data) → Holds base more d t → d.bytes ≡ s.bytes
      → OthersAsBefore s t → HasCopied inward numbers s t
  all_copied base more all s d t held same others = record {
    bytes = held.bytes ∙ ap (λ i. done i d.bytes) all ∙ ap (done k) same;
    others = others;
  }

  begins_copying : (s : Data) → BeginsCopy numbers s → Holds 0 0 s s
  begins_copying s begins =
      let none : (x : ℕ) → x % 2 ^ 32 ≡ (x + n * 0) % 2 ^ 32 = λ x. omega arith in
      record {
        begins = begins;
        source = begins.source ∙ none from;
        target = begins.target ∙ none to;
        others = λ q g h l. refl;
        bytes = refl;
      }

  -- few, by straight code
  pub straight_runs_on : k ≤ 16
      → Runs z (length (elements_code element n 0 k)) (elements_code element n 0 k) (BeginsCopy numbers)
      (HasCopied inward numbers)
  straight_runs_on few =
      weaken_runs z {P' = BeginsCopy numbers} {R' = HasCopied inward numbers}
      (elements_run k 0 0 0 (omega arith) (omega arith) (omega arith))
      (λ s begins. (s, begins_copying s begins))
      (λ s t begins more.
      let none : 0 + k ≡ k = omega arith in
      let held = subst (λ m. Holds 0 m s t) none (more s (begins_copying s begins)) in
      all_copied 0 k none s s t held refl (λ q g h l m o. held.others q g h m))

  -- A loop, in so many rounds.

  module _ (round : Round) (rounds : ℕ) (within : times round * rounds ≤ k) where
    -- how many elements a round copies
    abbrev r : ℕ
    r = times round

    -- x5 and x6 go on by as many
    next_runs : (base : ℕ) → base + r ≤ k
        → Runs z 2 (next_code (r * n)) (FromCopying base r) (ToCopying base r (base + r) 0)
    next_runs base all =
        let by = r * n in
        let few = near_elements kind r (omega (arith, round_few round)) in
        let small : by < 4096 = omega arith in
        let same : base + r ≡ base + r + 0 = omega arith in
        let moved = λ (x at : ℕ) (is : x ≡ (at + n * base) % 2 ^ 32).
        ap (λ y. sum_of y (sign_extended 12 by)) is ∙ on_by at base in
        weaken_runs z
        (computes_runs z (λ q. (q == 5) || (q == 6)) (next_code by)
        (λ regs. with_register (with_register regs 5 (sum_of (regs 5) (sign_extended 12 by))) 6
        (sum_of (regs 6) (sign_extended 12 by)))
        (simp (lt-ltb by 4096 small)) (λ regs. refl))
        (λ d given. given)
        (λ d t given made s held.
        subst (Holds (base + r) 0 s) (sym made)
        (record {
          begins = held.begins;
          source = moved (d.regs 5) from held.source;
          target = moved (d.regs 6) to held.target;
          others = λ q g h l.
              unwritten (with_register d.regs 5 (sum_of (d.regs 5) (sign_extended 12 by))) 6
              (sum_of (d.regs 6) (sign_extended 12 by)) q h
              ∙ unwritten d.regs 5 (sum_of (d.regs 5) (sign_extended 12 by)) q g
              ∙ held.others q g h l;
          bytes = held.bytes ∙ ap (λ j. done j s.bytes) same;
        }))
      where
        on_by : (at base : ℕ) → sum_of ((at + n * base) % 2 ^ 32) (sign_extended 12 (r * n))
            ≡ (at + n * (base + r)) % 2 ^ 32
        on_by at base =
            let few = near_elements kind r (omega (arith, round_few round)) in
            near_sum ((at + n * base) % 2 ^ 32) (r * n) (omega arith) ∙ omega arith

    -- x7 is where the rounds end
    pub record BeginsRounds (s : Data) : Type 0 where
      pub begins : BeginsCopy numbers s
      pub stop : s.regs 7 ≡ (from + n * (r * rounds)) % 2 ^ 32

    record Round_after (i : ℕ) (s d : Data) : Type 0 where
      begins : BeginsRounds s
      held : Holds (r * i) 0 s d

    inside_rounds : (i : ℕ) → i < rounds → r * i + r ≤ k
    inside_rounds i few = let fits = round_inside round i rounds few in omega arith

    round_runs : (i : ℕ) → i < rounds
        → Runs z (length (elements_code element n 0 r) + 2) (round_code inward kind r)
        (λ d. (s : Data) × Round_after i s d) (λ d t. (s : Data) → Round_after i s d → Round_after (suc i) s t)
    round_runs i few =
        let inside = inside_rounds i few in
        let e = next_round round i in
        let first : 0 + r ≡ r = omega arith in
        then_runs z {P = λ d. (s : Data) × Round_after i s d} {R = ToCopying (r * i) 0 (r * i) r}
        {S = λ d t. (s : Data) → Round_after i s d → Round_after (suc i) s t}
        (weaken_runs z (elements_run r (r * i) 0 0 (omega arith) (omega (arith, round_few round)) (omega (arith, inside)))
        (λ d given. (given.0, given.1.held))
        (λ d t given done s held. subst (λ m. Holds (r * i) m s t) first (done s held)))
        (next_runs (r * i) inside)
        (λ d t given done. (given.0, done given.0 given.1.held))
        (λ d t u given done more s begun. record {
          begins = begun.begins;
          held = subst (λ b. Holds b 0 s u) e (more s (done s begun.held));
        })

    stop_is : (i : ℕ) (s d : Data) → Round_after i s d → d.regs 7 ≡ (from + n * (r * rounds)) % 2 ^ 32
    stop_is i s d begun =
        begun.held.others 7 (λ e. omega arith) (λ e. omega arith) (λ e. omega arith) ∙ begun.begins.stop

    goes_further : (i : ℕ) (s d : Data) → i < rounds → Round_after i s d → d.regs 5 ≢ d.regs 7
    goes_further i s d few begun same =
        omega (
          arith,
          begun.held.source,
          stop_is i s d begun,
          rounds_fit round kind i rounds few,
          fewer_fit kind (r * rounds) k within,
          round_some round kind,
          can.source_ends,
        )

    pub loop_runs : 0 < rounds
        → Runs z (rounds * suc (length (elements_code element n 0 r) + 2)) (until_equal 5 7 (round_code inward kind r))
        BeginsRounds (λ s t. Holds (r * rounds) 0 s t)
    loop_runs some =
        let size = round_length round inward kind in
        loop z 5 7 (omega arith, omega arith) (round_code inward kind r) size.0 size.1 rounds Round_after round_runs
        goes_further (λ s d begun. begun.held.source ∙ sym (stop_is rounds s d begun)) some
        (λ s begins. record {
          begins = begins;
          held = subst (λ b. Holds b 0 s s) (no_round round) (begins_copying s begins.begins);
        })
        (λ s t begins begun. begun.held)

    -- with x7 at the end of the rounds
    abbrev pub bounded : Data → Data
    bounded s = with_result 7 (sum_of (n * (r * rounds)) (s.regs 5)) s

    pub rounds_begin : (s : Data) → BeginsCopy numbers s → BeginsRounds (bounded s)
    rounds_begin s begins =
        let fits = fewer_fit kind (r * rounds) k within in
        let few = can.few in
        record {
          begins = record {
            stack = begins.stack;
            source = begins.source;
            target = begins.target;
            from_there = begins.from_there;
            to_there = begins.to_there;
          };
          stop = ap (λ x. sum_of (n * (r * rounds)) x) begins.source ∙ omega arith;
        }

  -- Many, by a loop of their own.

  module _ (pace : Pace) where
    abbrev round : Round
    round = own_round pace kind

    abbrev rounds : ℕ
    rounds = k / times round

    abbrev left : ℕ
    left = k % times round

    all_rounds : times round * rounds + left ≡ k
    all_rounds = rounds_split round k

    rounds_within : times round * rounds ≤ k
    rounds_within = omega (arith, all_rounds)

    rounds_run : few_elements pace kind ≤ k
        → Runs z (rounds_steps pace element kind k) (rounds_code pace element kind k) (BeginsCopy numbers)
        (HasCopied inward numbers)
    rounds_run many =
        let gone = times round * rounds in
        let bytes = n * gone in
        let rest = elements_code element n 0 left in
        let all = all_rounds in
        let none : 0 + left ≡ left = omega arith in
        let fits = fewer_fit kind gone k rounds_within in
        let few = can.few in
        let body = round_code inward kind (times round) in
        as_code z (sym (append_assoc (bound_code bytes) (until_equal 5 7 body) rest))
        (in_steps z (counted (length (bound_code bytes)) (length (elements_code element n 0 (times round))) (length rest))
        (makes_then z {P = BeginsCopy numbers} {f = bounded round rounds rounds_within} {S = HasCopied inward numbers}
        (bound_runs z bytes (omega arith))
        (then_runs z {S = λ s t. Holds gone left s t} (loop_runs round rounds rounds_within (rounds_some pace kind k many))
        (elements_run left gone 0 0 (omega arith) (omega (arith, left_few round k)) (omega (arith, all)))
        (λ s t begins held. (s, held))
        (λ s t u begins held more. subst (λ m. Holds gone m s u) none (more s held)))
        (rounds_begin round rounds rounds_within)
        (λ s u begins held.
        all_copied gone left all s (bounded round rounds rounds_within s) u held refl
        (λ q g h l m o. held.others q g h m ∙ unwritten s.regs 7 (sum_of bytes (s.regs 5)) q l))))
      where
        counted : (bound e rest : ℕ) → bound + (rounds * suc (e + 2) + rest) ≡ bound + (e + 3) * rounds + rest
        counted bound e rest = omega arith

    pub copy_runs : Runs z (copied_steps pace element kind k) (copied_code pace element kind k) (BeginsCopy numbers)
        (HasCopied inward numbers)
    copy_runs = by (nat_lt k (few_elements pace kind)) refl
      where
        by : (b : Bool) → nat_lt k (few_elements pace kind) ≡ b
            → Runs z (if b then length (elements_code element n 0 k) else rounds_steps pace element kind k)
            (if b then elements_code element n 0 k else rounds_code pace element kind k) (BeginsCopy numbers)
            (HasCopied inward numbers)
        by true few =
            let below = ltb-true k (few_elements pace kind) few in
            straight_runs_on (omega (arith, few_enough pace kind))
        by false many = rounds_run (ltb-false k (few_elements pace kind) many)
