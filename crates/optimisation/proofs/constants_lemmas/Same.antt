-- Simpler statements leave the state that the statements leave, and their path is fine where that of the statements
-- is.
use Rattle.std.proofs.Common.{◌≡◌, ℕ, zero, suc, ◌+◌, ◌-◌, ◌<◌, ◌≤◌, ◌==◌, Bool, true, false, if◌then◌else◌, List, ◌∷◌}
use Rattle.std.proofs.Common.{◌++◌, Option, None, Some, refl, sym, ap, ap₂, ◌∙◌, subst, arith}
use Rattle.optimisation.specs.Below.{after, after_all, AreTyped, array, bounded, branch, chain, counted, counter_type}
use Rattle.optimisation.specs.Below.{decided as decided_mark, first, FlatVariable, holds as holds_under, IsFilled}
use Rattle.optimisation.specs.Below.{IsSet, IsTyped, nothing, number, Path, path_along, path_at, path_in}
use Rattle.optimisation.specs.Below.{path_of_iterations, Profile, put, repeats, set, StraightBlock, StraightState}
use Rattle.optimisation.specs.Below.{StraightTree, take, TermTree, iterations, Types, types_but, types_of, value_at}
use Rattle.optimisation.specs.Below.{with_element, with_variable}
use Rattle.inline.proofs.Fitting.{value_fits}
use Rattle.branch_removal.proofs.Sequences.{after-chain, path-chain, fine_back}
use Rattle.optimisation.specs.constants.private.Folding.{simple}
use Rattle.optimisation.specs.constants.private.Known.{WordFacts, behind, in_loop, without}
use Rattle.optimisation.specs.constants.private.Simplification.{at_iteration, code_of_iterations, knowing, knowing_all}
use Rattle.optimisation.specs.constants.private.Simplification.{set_to, simplified, simplified_all}
use Rattle.optimisation.proofs.constants_lemmas.Held.{counter_limit, IsCounter, fewer_fit, fits_after}
use Rattle.optimisation.proofs.constants_lemmas.Held.{fits_after_all}
use Rattle.optimisation.proofs.constants_lemmas.KnownLemmas.{Agrees, FactsHold, without_known}
use Rattle.optimisation.proofs.constants_lemmas.Learned.{AllHolds, arm_begins, decided_here, kept, loop_begins}
use Rattle.optimisation.proofs.constants_lemmas.Learned.{noted_copy, number_here, iteration_end, iteration_known}
use Rattle.optimisation.proofs.constants_lemmas.Learned.{iteration_start}
use Rattle.optimisation.proofs.constants_lemmas.StatementRules.{branch_by, loop_by}
use Rattle.optimisation.proofs.constants_lemmas.TermLemmas.{same_value, still_alike, suited_alike, all_alike}
use Rattle.optimisation.proofs.constants_lemmas.Unset.{behind_part, within_loop}
use Rattle.straight_words.proofs.over_lemmas.Values.{IsNoWorse, same_path, both, through, alone, at_index}
use Rattle.straight_words.proofs.over_lemmas.Beside.{branch_path, loop_path}

module _ (most : List ℕ) where
  -- two loops whose iterations do the same, of numbers below a limit
  pub iterations_alike : {S : Type 0} (P : S → Type 0) (f g : ℕ → S → S) (p q : ℕ → S → Path) (limit : ℕ)
      → ((i : ℕ) (s : S) → i < limit → P s → (f i s ≡ g i s) × IsNoWorse most (q i s) (p i s) × P (g i s))
      → (n i : ℕ) (s : S) → i + n ≤ limit → P s
      → (iterations n i f s ≡ iterations n i g s) × IsNoWorse most (path_of_iterations n i g q s)
      (path_of_iterations n i f p s)
  iterations_alike P f g p q limit each zero i s below holds = (refl, same_path most)
  iterations_alike P f g p q limit each (suc n) i s below holds =
      let one = each i s (omega arith) holds in
      let rest = iterations_alike P f g p q limit each n (i + 1) (g i s) (omega arith) one.2 in
      (ap (iterations n (i + 1) f) one.0 ∙ rest.0, rw one.0 (both most one.1 rest.1))

  -- from a state code leads to that one, where these words are known, and its path is fine where this one is
  pub record LeadsTo (s : StraightState) (code : StraightBlock) (words : WordFacts) (t : StraightState) (whole : Path)
      : Type 0 where
    pub same : after_all s code ≡ t
    pub agrees : Agrees words t.variables
    pub path : IsNoWorse most whole (path_along s code)

  both_lead : {s t u : StraightState} {code more : StraightBlock} {words next : WordFacts} {p q : Path}
      → LeadsTo s code words t p → LeadsTo t more next u q → LeadsTo s (chain code more) next u (p ++ q)
  both_lead {s = s} {code = code} {more = more} one other = record {
    same = rw (after-chain s code more, one.same) other.same;
    agrees = other.agrees;
    path = rw (path-chain s code more, one.same) (both most one.path other.path);
  }

  -- so where an iteration begins
  iteration_leads : (x i : ℕ) (s : StraightState) {t : StraightState} {code : StraightBlock} {words : WordFacts}
      {p : Path}
      → LeadsTo (counted x i s) code words t p
      → LeadsTo s (first (set None x (number i counter_type.kind)) code) words t p
  iteration_leads x i s one = record { same = one.same; agrees = one.agrees; path = one.path }

  -- so on a longer path
  along : {s t : StraightState} {code : StraightBlock} {words : WordFacts} {p q : Path} → IsNoWorse most q p
      → LeadsTo s code words t p → LeadsTo s code words t q
  along shorter one = record { same = one.same; agrees = one.agrees; path = through most shorter one.path }

  module _ (profile : Profile) (declared : List FlatVariable) (controls : ℕ) where
    abbrev types : Types
    types = types_of profile declared

    module _ (words : WordFacts) (s : StraightState) (holds : AllHolds profile declared words s) where
      set_agrees : (within : Option ℕ) (x : ℕ) (value : TermTree) → IsSet profile declared x value
          → Agrees (set_to declared words within x (simple words value)) (after s (set within x value)).variables
      set_agrees None x value is =
          noted_copy declared words s.variables x (value_at s value) (simple words value) holds.agrees
          (sym (same_value types words s.variables holds is.suits.has_type))
      set_agrees (Some control) x value is =
          kept words (without words x) (set (Some control) x value) s holds.agrees
          (without_known words x)

      -- what holds where an array gets its first values
      holds_but : (x size : ℕ) (values : List TermTree) → IsFilled profile declared x size values
          → FactsHold (types_but profile declared x) words s.variables
      holds_but x size values is = record {
        agrees = holds.agrees;
        fits = fewer_fit profile declared x s.variables holds.fits;
      }

    -- a branch that is decided leads where its arm does
    arm_leads : (s : StraightState) (condition : TermTree) (accepted otherwise : StraightBlock)
        {code : StraightBlock} {words : WordFacts} (z : Bool) → (value_at s condition == 0) ≡ z
        → LeadsTo s code words (if z then after_all s otherwise else after_all s accepted)
        (if z then path_along s otherwise else path_along s accepted)
        → LeadsTo s code words (after s (branch condition accepted otherwise))
        (path_at s (branch condition accepted otherwise))
    arm_leads s condition accepted otherwise {code = code} {words = words} z is one =
        along (record {
          fine = λ fine. (fine_back most (path_in s.variables condition) (decided_mark (value_at s condition)
              ∷ (if value_at s condition == 0 then path_along s otherwise else path_along s accepted)) fine).1;
        })
        (subst (λ y. LeadsTo s code words (if y then after_all s otherwise else after_all s accepted)
        (if y then path_along s otherwise else path_along s accepted)) (sym is) one)

    -- so iterations between two numbers
    iterations_lead : (s : StraightState) (x : ℕ) (low high : TermTree) (body : StraightBlock) {code : StraightBlock}
        {words : WordFacts} (l h : ℕ) → l ≡ value_at s low → h ≡ value_at s high
        → LeadsTo s code words (iterations (h - l) l (λ i t. after_all (counted x i t) body) s)
        (path_of_iterations (h - l) l (λ i t. after_all (counted x i t) body)
        (λ i t. path_along (counted x i t) body) s)
        → LeadsTo s code words (after s (repeats x low high body)) (path_at s (repeats x low high body))
    iterations_lead s x low high body {code = code} {words = words} l h at_low at_high one =
        let iteration : ℕ → StraightState → StraightState = λ i t. after_all (counted x i t) body in
        let path : ℕ → StraightState → Path = λ i t. path_along (counted x i t) body in
        let a = value_at s low in
        let b = value_at s high in
        along (record {
          fine = λ fine. (fine_back most (path_in s.variables low ++ path_in s.variables high)
              (bounded x a b ∷ path_of_iterations (b - a) a iteration path s) fine).1;
        })
        (subst (λ k. LeadsTo s code words (iterations (k - a) a iteration s)
        (path_of_iterations (k - a) a iteration path s)) at_high
        (subst (λ k. LeadsTo s code words (iterations (h - k) k iteration s)
        (path_of_iterations (h - k) k iteration path s)) at_low one))

    module _ (unroll_limits : List ℕ) where
      -- so many iterations of a loop
      all_iterations_lead : (x : ℕ) (body : StraightBlock) → IsCounter declared x
          → AreTyped profile declared controls body
          → ((w : WordFacts) (t : StraightState) → AllHolds profile declared w t
          → LeadsTo t (simplified_all unroll_limits declared w body) (knowing_all unroll_limits declared w body)
          (after_all t body)
          (path_along t body))
          → (n i : ℕ) (words : WordFacts) (s : StraightState) → i + n ≤ counter_limit
          → AllHolds profile declared words s
          → LeadsTo s (code_of_iterations n i (λ j w. knowing_all unroll_limits declared (at_iteration x j w) body)
          (λ j w. first (set None x (number j counter_type.kind))
          (simplified_all unroll_limits declared (at_iteration x j w) body)) words)
          (iterations n i (λ j w. knowing_all unroll_limits declared (at_iteration x j w) body) words)
          (iterations n i (λ j t. after_all (counted x j t) body) s)
          (path_of_iterations n i (λ j t. after_all (counted x j t) body) (λ j t. path_along (counted x j t) body) s)
      all_iterations_lead x body there is inside zero i words s below holds =
          record { same = refl; agrees = holds.agrees; path = same_path most }
      all_iterations_lead x body there is inside (suc n) i words s below holds =
          let here : i < counter_limit = omega arith in
          let known = iteration_known profile declared words s x i there here holds in
          let a = inside (at_iteration x i words) (counted x i s) known in
          both_lead (iteration_leads x i s a)
          (all_iterations_lead x body there is inside n (i + 1)
          (knowing_all unroll_limits declared (at_iteration x i words) body)
          (after_all (counted x i s) body) (omega arith) (record {
            agrees = a.agrees;
            fits = fits_after_all profile declared controls body is (counted x i s) known.fits;
          }))

      mutual
        leads : (words : WordFacts) (statement : StraightTree) → IsTyped profile declared controls statement
            → (s : StraightState) → AllHolds profile declared words s
            → LeadsTo s (simplified unroll_limits declared words statement)
            (knowing unroll_limits declared words statement)
            (after s statement) (path_at s statement)
        leads words (set within x value) is s holds =
            let a = suited_alike most types words s.variables holds is.1.suits in
            record {
              same = rw a.value refl;
              agrees = set_agrees words s holds within x value is.1;
              path = alone most a.path;
            }
        leads words (array x size values) is s holds =
            let a = all_alike most (types_but profile declared x) words s.variables
            (holds_but words s holds x size values is) is.word values is.suit in
            record {
              same = ap (with_variable s x) (a.filled size);
              agrees = kept words (without words x) (array x size values) s holds.agrees (without_known words x);
              path = alone most a.path;
            }
        leads words (put within place x size index value) is s holds =
            let i = still_alike most types words s.variables holds is.1.index_type in
            let a = suited_alike most types words s.variables holds is.1.suits in
            record {
              same = ap₂ (λ i v. if holds_under s within then with_element s x i v else s) i.value a.value;
              agrees = kept words (without words x) (put within place x size index value) s holds.agrees
                  (without_known words x);
              path = alone most (both most i.path (at_index most place size i.value a.path));
            }
        leads words (take control within condition) is s holds =
            let a = still_alike most types words s.variables holds is.2.1 in
            record { same = rw a.value refl; agrees = holds.agrees; path = alone most a.path }
        leads words (branch condition accepted otherwise) is s holds =
            let second = behind (knowing_all unroll_limits declared words accepted) accepted in
            let chooser = still_alike most types words s.variables holds is.0 in
            let a = all_lead words accepted is.1 s holds in
            let b = all_lead second otherwise is.2 s
            (arm_begins profile declared unroll_limits words accepted s holds) in
            branch_by unroll_limits declared
            (λ code next. LeadsTo s code next (after s (branch condition accepted otherwise))
            (path_at s (branch condition accepted otherwise))) words condition accepted otherwise
            (λ decides. arm_leads s condition accepted otherwise false
            (decided_here types words s holds is.0 true decides) a)
            (λ decides. arm_leads s condition accepted otherwise true
            (decided_here types words s holds is.0 false decides) (all_lead words otherwise is.2 s holds))
            (record {
              same = rw (chooser.value, b.same, a.same) refl;
              agrees = kept words (behind (knowing_all unroll_limits declared second otherwise) otherwise)
                  (branch condition accepted otherwise) s holds.agrees
                  (λ f is.
                  let later = behind_part unroll_limits declared second otherwise f is in
                  let front = behind_part unroll_limits declared words accepted f later.0 in
                  (front.0, (front.1, later.1)));
              path = alone most
                  (branch_path most s s accepted otherwise (simplified_all unroll_limits declared words accepted)
                  (simplified_all unroll_limits declared second otherwise) chooser a.path b.path);
            })
        leads words (repeats x low high body) is s holds =
            let inside = in_loop words x body in
            let code = simplified_all unroll_limits declared inside body in
            let from = still_alike most types words s.variables holds is.0 in
            let to = still_alike most types words s.variables holds is.1 in
            let low_fits = value_fits types s.variables holds.fits is.0 in
            let high_fits = value_fits types s.variables holds.fits is.1 in
            let run = iterations_alike (AllHolds profile declared inside) (λ i t. after_all (counted x i t) code)
            (λ i t. after_all (counted x i t) body) (λ i t. path_along (counted x i t) code)
            (λ i t. path_along (counted x i t) body) counter_limit
            (λ i t below known.
            let one = all_lead inside body is.3 (counted x i t)
            (iteration_start profile declared words x body is.2 i t below known) in
            (one.same, one.path, iteration_end profile declared words x body is.2 i t below known controls is.3))
            (value_at s high - value_at s low) (value_at s low) s (omega (arith, low_fits, high_fits))
            (loop_begins profile declared words x body s holds) in
            loop_by unroll_limits declared
            (λ made next. LeadsTo s made next (after s (repeats x low high body)) (path_at s (repeats x low high body)))
            words x low high body
            (λ a b low_is high_is.
            let at_low = number_here types words s holds is.0 a low_is in
            let at_high = number_here types words s holds is.1 b high_is in
            iterations_lead s x low high body a.value b.value at_low at_high
            (all_iterations_lead x body is.2 is.3 (λ w t known. all_lead w body is.3 t known)
            (b.value - a.value) a.value
            words s (omega (arith, at_low, at_high, low_fits, high_fits)) holds))
            (record {
              same = rw (from.value, to.value) run.0;
              agrees = kept words (behind (knowing_all unroll_limits declared inside body) body)
                  (repeats x low high body) s
                  holds.agrees
                  (λ f is. within_loop words x body f (behind_part unroll_limits declared inside body f is).0);
              path = alone most (loop_path most s s x body code from to run.1);
            })

        pub all_lead : (words : WordFacts) (body : StraightBlock) → AreTyped profile declared controls body
            → (s : StraightState) → AllHolds profile declared words s
            → LeadsTo s (simplified_all unroll_limits declared words body)
            (knowing_all unroll_limits declared words body)
            (after_all s body) (path_along s body)
        all_lead words nothing is s holds = record { same = refl; agrees = holds.agrees; path = same_path most }
        all_lead words (first statement rest) is s holds =
            let a = leads words statement is.0 s holds in
            both_lead a
            (all_lead (knowing unroll_limits declared words statement) rest is.1 (after s statement) (record {
              agrees = a.agrees;
              fits = fits_after profile declared controls statement is.0 s holds.fits;
            }))
