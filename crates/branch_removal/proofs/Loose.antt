-- A loose run goes beside the straight run: it agrees with it in what is public. So there is a loose run from any
-- state. And where no loose run of a body meets a fault, straight code for it meets none: each piece of its path lies
-- on the path of some loose run. Of a branch on a secret one loose run takes the first arm, and another one the second.
use Rattle.std.proofs.Common.{◌≡◌, ℕ, zero, suc, ◌+◌, ◌-◌, ◌<◌, ◌==◌, Bool, true, false, cond, if◌then◌else◌, List}
use Rattle.std.proofs.Common.{[], ◌∷◌, ◌++◌, map, replicate, Option, None, Some, slice_set, refl, sym, ap, ap₂, ◌∙◌}
use Rattle.std.proofs.Common.{subst, arith}
use Rattle.branch_removal.specs.Below.{an_iteration, AreFine, AreTyped, array, array_as, assign, assigns, Boolean}
use Rattle.branch_removal.specs.Below.{bounded, branch, chooses, counter_type, declare, declares, declares_array, ends}
use Rattle.branch_removal.specs.Below.{first, FlatBlock, FlatTree, FlatVariable, goes_on, TermHasType, hold, holds}
use Rattle.branch_removal.specs.Below.{indexed, IsElementAssigned, IsTyped, Label, labelled, LooselyLeadAll}
use Rattle.branch_removal.specs.Below.{LooselyLeads, loop, no_iteration, none_left, nothing, Path, path_in, path_in_all}
use Rattle.branch_removal.specs.Below.{path_of_iterations, Place, Profile, Public, put, puts, repeats, Secret, skip}
use Rattle.branch_removal.specs.Below.{skips, TermTree, to_anything, Iterations, iterations, Types, types_after}
use Rattle.branch_removal.specs.Below.{types_after_all, types_of, value_in, Values, with_type, with_value, word_as}
use Rattle.branch_removal.specs.Below.{WordType}
use Rattle.inline.proofs.Face.{types_kept}
use Rattle.intervals.proofs.StrictRuns.{comes, come_all}
use Rattle.branch_removal.specs.private.Removal.{take_within, removed, removed_all}
use Rattle.branch_removal.specs.Straight.{StraightTree, StraightBlock}
use Rattle.branch_removal.specs.Straight as straight
use Rattle.branch_removal.specs.StraightMeaning.{StraightState, with_variable, value_at, counted, after, after_all}
use Rattle.branch_removal.specs.StraightMeaning.{path_at, path_along}
use Rattle.branch_removal.proofs.Agreement.{Agree, what_is_public, set_in_both, declared_in_both}
use Rattle.branch_removal.proofs.Sequences.{after-chain, path-chain, fine_both, fine_front, fine_back, fine_alone}
use Rattle.branch_removal.proofs.Scopes.{AreAmong, has_type_among, among_beside, among_after, stays_beside}
use Rattle.branch_removal.proofs.SeenLemmas.{both_seen, fine_alike}
use Rattle.branch_removal.proofs.Typed.{IsUnder}
use Rattle.branch_removal.proofs.Unchanged.{hidden, set_quietly, unchanged_all}
use Rattle.branch_removal.proofs.Values.{public_value, public_suited, public_all, one_seen, all_seen}

-- a state with these variables
abbrev pub holding : Values → StraightState
holding m = record { variables = m; controls = λ c. false }

module _ (profile : Profile) (declared : List FlatVariable) (most : List ℕ) where
  abbrev all : Types
  all = types_of profile declared

  -- none of these runs meets a fault
  abbrev AreSafe : (Values → Path → Type 0) → Type 0
  AreSafe Runs = (t : Values) (q : Path) → Runs t q → AreFine most q

  -- of these runs there is one that agrees with a straight run that ends in s; and the path of that is fine where all
  -- of them are safe
  pub record Beside (Runs : Values → Path → Type 0) (types : Types) (s : StraightState) (along : Path) : Type 0 where
    pub end : Values
    pub path : Path
    pub runs : Runs end path
    pub agree : Agree what_is_public types s.variables end
    pub fine : AreSafe Runs → AreFine most along

  -- it agrees with what fewer types say, too
  narrowed : {Runs : Values → Path → Type 0} (types later : Types) {s : StraightState} {along : Path}
      → ((y : ℕ) (d : FlatVariable) → types.at y ≡ Some d → later.at y ≡ Some d) → Beside Runs later s along
      → Beside Runs types s along
  narrowed types later kept run = record {
    end = run.end;
    path = run.path;
    runs = run.runs;
    agree = λ y d known public. run.agree y d (kept y d known) public;
    fine = run.fine;
  }

  -- one run and another behind it, where the other kind of run goes on from anywhere
  both_beside : {First Whole : Values → Path → Type 0} {Rest : Values → Values → Path → Type 0}
      {types later : Types} {s t : StraightState} {a b : Path}
      → ((m o : Values) (p q : Path) → First m p → Rest m o q → Whole o (p ++ q))
      → ((m : Values) → (o : Values) × (q : Path) × Rest m o q)
      → (one : Beside First types s a) → Beside (Rest one.end) later t b → Beside Whole later t (a ++ b)
  both_beside {a = a} {b = b} joined onward one more = record {
    end = more.end;
    path = one.path ++ more.path;
    runs = joined one.end more.end one.path more.path one.runs more.runs;
    agree = more.agree;
    fine = λ safe. fine_both most a b
        (one.fine (λ t q run. let next = onward t in
        fine_front most q next.1 (safe next.0 (q ++ next.1) (joined t next.0 q next.1 run next.2))))
        (more.fine (λ t q run. fine_back most one.path q
        (safe t (one.path ++ q) (joined one.end t one.path q one.runs run))));
  }

  -- a statement alone, whose path is as fine as this loose run's
  alone : {types : Types} {m : Values} {statement : FlatTree} (s : StraightState) (code : StraightTree) (end : Values)
      (path : Path) → LooselyLeads all m statement end path → Agree what_is_public types (after s code).variables end
      → (AreFine most path → AreFine most (path_at s code))
      → Beside (LooselyLeads all m statement) types (after_all s (straight.first code straight.nothing))
      (path_along s (straight.first code straight.nothing))
  alone s code end path runs agree fine = record {
    end = end;
    path = path;
    runs = runs;
    agree = agree;
    fine = λ safe. fine_alone most (path_at s code) (fine (safe end path runs));
  }

  -- where each iteration has a loose run beside it, so have all iterations
  follow_iterations : (types : Types) (x : ℕ) (body : FlatBlock) (iteration : ℕ → StraightState → StraightState)
      (along : ℕ → StraightState → Path)
      → ((i : ℕ) (s : StraightState) (m : Values) → Agree what_is_public types s.variables m
      → Beside (LooselyLeadAll all (with_value m x (i ∷ [])) body) types (iteration i s) (along i s))
      → (n i : ℕ) (s : StraightState) (m : Values) → Agree what_is_public types s.variables m
      → Beside (Iterations all x body n i m) types (iterations n i iteration s)
      (path_of_iterations n i iteration along s)
  follow_iterations types x body iteration along step zero i s m agree =
      record { end = m; path = []; runs = no_iteration; agree = agree; fine = λ safe. tt }
  follow_iterations types x body iteration along step (suc n) i s m agree =
      let more = follow_iterations types x body iteration along step n (i + 1) in
      let one = step i s m agree in
      both_beside {Rest = λ t. Iterations all x body n (i + 1) t} (λ t o p q run rest. an_iteration run rest)
      (λ t. let next = more (holding t) t (λ y d known public. refl) in (next.end, next.path, next.runs))
      one (more (iteration i s) one.end one.agree)

  -- a secret that is set or kept in the straight run, and set in the loose one
  set_beside : (types : Types) (label : Label) (c x : ℕ) (v w : List ℕ) (new : FlatVariable) → types.at x ≡ Some new
      → (label ≡ Secret → new.word.label ≡ Secret)
      → label ≡ Secret → (s : StraightState) (m : Values) → Agree what_is_public types s.variables m
      → Agree what_is_public types (cond (s.controls c) (with_variable s x v) s).variables (with_value m x w)
  set_beside types label c x v w new known secret under s m agree y d there public =
      set_quietly what_is_public types label (Some c) 0 s x v new known secret (hidden under (λ e p. p)) y d
      there public
      ∙ (agree y d there public
      ∙ sym (set_quietly what_is_public types label None 0 (holding m) x w new known secret (hidden under (λ e p. p))
      y d there public))

  -- a condition on a secret may be true, or false
  either_way : (types : Types) → AreAmong types all
      → (m : Values) (condition : TermTree) (accepted otherwise : FlatBlock)
      → TermHasType types condition (labelled Boolean Secret)
      → (bit : ℕ) → bit < 2 → (t : Values) (q : Path)
      → LooselyLeadAll all m (if bit == 0 then otherwise else accepted) t q
      → LooselyLeads all m (branch Secret condition accepted otherwise) t (path_in m condition ++ q)
  either_way types among m condition accepted otherwise has bit small t q run =
      chooses (to_anything (comes all m condition) (has_type_among types all among has) refl small) run

  module _ (types : Types) (s : StraightState) (m : Values) (agree : Agree what_is_public types s.variables m) where
    -- an expression's path is fine where a loose run's is
    fine_term : (e : TermTree) {word : WordType} → TermHasType types e word → AreFine most (path_in m e)
        → AreFine most (path_in s.variables e)
    fine_term e has fine = fine_alike most types.profile (path_in s.variables e) (path_in m e)
        (one_seen types s.variables m agree has) fine

    -- an element that is set, or kept
    fine_put : (label : Label) (place : Place) (x size : ℕ) (index value : TermTree)
        → IsElementAssigned types label x size index value
        → AreFine most (path_in m index ++ indexed place size (value_in m index) ∷ path_in m value)
        → AreFine most
        (path_in s.variables index ++ indexed place size (value_at s index) ∷ path_in s.variables value)
    fine_put label place x size index value typed fine =
        fine_alike most types.profile
        (path_in s.variables index ++ indexed place size (value_at s index) ∷ path_in s.variables value)
        (path_in m index ++ indexed place size (value_in m index) ∷ path_in m value)
        (both_seen types.profile (path_in s.variables index)
        (indexed place size (value_at s index) ∷ path_in s.variables value) (path_in m index)
        (indexed place size (value_in m index) ∷ path_in m value)
        (one_seen types s.variables m agree typed.index_type)
        (ap₂ (λ (i : ℕ) (p : Path). indexed place size i ∷ p)
        (public_value types s.variables m agree typed.index_type refl)
        (one_seen types s.variables m agree typed.suits.has_type))) fine

    -- both take the same of two arms, by a condition on what is public
    follow_arm : (condition : TermTree) (accepted otherwise : FlatBlock)
        → TermHasType types condition (labelled Boolean Public) → (one_code other_code : StraightBlock)
        → Beside (LooselyLeadAll all m accepted) types (after_all s one_code) (path_along s one_code)
        → Beside (LooselyLeadAll all m otherwise) types (after_all s other_code) (path_along s other_code)
        → (b : Bool) → (value_in m condition == 0) ≡ b
        → Beside (LooselyLeads all m (branch Public condition accepted otherwise)) types
        (after s (straight.branch condition one_code other_code))
        (path_along s (straight.first (straight.branch condition one_code other_code) straight.nothing))
    follow_arm condition accepted otherwise has one_code other_code one other b is =
        let test = ap (λ v. v == 0) (public_value types s.variables m agree has refl) ∙ is in
        let arm : Beside (LooselyLeadAll all m (cond b otherwise accepted)) types
        (cond b (after_all s other_code) (after_all s one_code))
        (cond b (path_along s other_code) (path_along s one_code)) =
        elim b as (λ b. Beside (LooselyLeadAll all m (cond b otherwise accepted)) types
        (cond b (after_all s other_code) (after_all s one_code))
        (cond b (path_along s other_code) (path_along s one_code))) [ true ↦ other | false ↦ one ] in
        let way : (t : Values) (q : Path) → LooselyLeadAll all m (cond b otherwise accepted) t q
        → LooselyLeads all m (branch Public condition accepted otherwise) t (path_in m condition ++ q) =
        λ t q run. chooses (comes all m condition) (rw is run) in
        rw test (record {
          end = arm.end;
          path = path_in m condition ++ arm.path;
          runs = way arm.end arm.path arm.runs;
          agree = arm.agree;
          fine = λ safe. fine_alone most _ (fine_both most (path_in s.variables condition) _
              (fine_term condition has
              (fine_front most (path_in m condition) arm.path (safe _ _ (way arm.end arm.path arm.runs))))
              (tt, arm.fine (λ t q run. fine_back most (path_in m condition) q (safe t _ (way t q run)))));
        })

  mutual
    pub follow : (types : Types) (label : Label) (statement : FlatTree) → IsTyped declared types label statement
        → AreAmong types all → (within : Option ℕ) (control : ℕ) → IsUnder within label
        → (s : StraightState) (m : Values) → Agree what_is_public types s.variables m
        → Beside (LooselyLeads all m statement) (types_after types statement)
        (after_all s (removed within control statement)) (path_along s (removed within control statement))
    follow types label (declare x word mutable value) typed among within control under s m agree =
        alone s (straight.set None x value) _ _ (declares (comes all m value))
        (declared_in_both what_is_public types s.variables m x _ _ (word_as word mutable)
        (λ public. ap (λ (v : ℕ). v ∷ []) (public_suited types s.variables m agree word value typed.1 public)) agree)
        (fine_term types s m agree value typed.1.has_type)
    follow types label (array x word mutable size []) typed among within control under s m agree =
        alone s (straight.array x size []) (with_value m x (replicate size 0)) [] (declares_array none_left)
        (declared_in_both what_is_public types s.variables m x _ _ (array_as word mutable size) (λ public. refl) agree)
        (λ fine. tt)
    follow types label (array x word mutable size (e ∷ es)) typed among within control under s m agree =
        alone s (straight.array x size (e ∷ es)) (with_value m x (map (value_in m) (e ∷ es))) (path_in_all m (e ∷ es))
        (declares_array (come_all all m (e ∷ es)))
        (declared_in_both what_is_public types s.variables m x _ _ (array_as word mutable size)
        (λ public. public_all types s.variables m agree word (e ∷ es) typed.1 public) agree)
        (fine_alike most types.profile (path_in_all s.variables (e ∷ es)) (path_in_all m (e ∷ es))
        (all_seen types s.variables m agree word (e ∷ es) typed.1))
    follow types label (assign x value) typed among None control under s m agree =
        alone s (straight.set None x value) _ _ (assigns (comes all m value))
        (set_in_both what_is_public types s.variables m x _ _ _
        (λ public. ap (λ (v : ℕ). v ∷ [])
        (public_suited types s.variables m agree typed.word value typed.suits public)) agree typed.known)
        (fine_term types s m agree value typed.suits.has_type)
    follow types label (assign x value) typed among (Some c) control under s m agree =
        alone s (straight.set (Some c) x value) _ _ (assigns (comes all m value))
        (set_beside types label c x _ _ _ typed.known typed.hidden under s m agree)
        (fine_term types s m agree value typed.suits.has_type)
    follow types label (put place x size index value) typed among None control under s m agree =
        alone s (straight.put None place x size index value) _ _ (puts (comes all m index) (comes all m value))
        (set_in_both what_is_public types s.variables m x _ _ _
        (λ public.
        ap (λ numbers. slice_set numbers (value_at s index) (value_at s value)) (agree x _ typed.known public)
        ∙ ap₂ (λ i v. slice_set (m x) i v)
        (public_value types s.variables m agree typed.index_type refl)
        (public_suited types s.variables m agree typed.word value typed.suits public))
        agree typed.known)
        (fine_put types s m agree label place x size index value typed)
    follow types label (put place x size index value) typed among (Some c) control under s m agree =
        alone s (straight.put (Some c) place x size index value) _ _ (puts (comes all m index) (comes all m value))
        (set_beside types label c x _ _ _ typed.known typed.hidden under s m agree)
        (fine_put types s m agree label place x size index value typed)
    follow types label (hold x place size index) typed among within control under s m agree =
        alone s (straight.set None x index) _ _ (holds (comes all m index))
        (declared_in_both what_is_public types s.variables m x _ _ (word_as counter_type false)
        (λ public. ap (λ (v : ℕ). v ∷ []) (public_value types s.variables m agree typed.1 refl)) agree)
        (λ fine. fine_term types s m agree index typed.1 (fine_front most (path_in m index) _ fine))
    follow types label skip typed among within control under s m agree =
        record { end = m; path = []; runs = skips; agree = agree; fine = λ safe. tt }
    follow types label (branch Secret condition accepted otherwise) typed among within control under s m agree =
        let taken : StraightState = after s (take_within within control condition) in
        let code : StraightBlock = removed_all (Some control) (control + 2) accepted in
        let other : StraightBlock = removed_all (Some (control + 1)) (control + 2) otherwise in
        let way = either_way types among m condition accepted otherwise typed.0 in
        let one = narrowed types _ (types_kept declared types Secret accepted typed.1)
        (follow_all types Secret accepted typed.1 among (Some control) (control + 2) refl taken m agree) in
        let more = follow_all types Secret otherwise typed.2 among (Some (control + 1)) (control + 2) refl
        (after_all taken code) m
        (λ y d known public.
        unchanged_all declared what_is_public types Secret accepted typed.1 (Some control) (control + 2) taken
        (hidden refl (λ e p. p)) y d known public
        ∙ agree y d known public) in
        record {
          end = one.end;
          path = path_in m condition ++ one.path;
          runs = way 1 (omega arith) one.end one.path one.runs;
          agree = λ y d known public.
              ap (λ (t : StraightState). t.variables y) (after-chain taken code other)
              ∙ (unchanged_all declared what_is_public types Secret otherwise typed.2 (Some (control + 1))
              (control + 2) (after_all taken code) (hidden refl (λ e p. p)) y d known public
              ∙ one.agree y d known public);
          fine = λ safe. fine_both most (path_in s.variables condition) (path_along taken (straight.chain code other))
              (fine_term types s m agree condition typed.0 (fine_front most (path_in m condition) one.path
              (safe one.end (path_in m condition ++ one.path) (way 1 (omega arith) one.end one.path one.runs))))
              (subst (AreFine most) (sym (path-chain taken code other))
              (fine_both most (path_along taken code) (path_along (after_all taken code) other)
              (one.fine (λ t q run. fine_back most (path_in m condition) q (safe t _ (way 1 (omega arith) t q run))))
              (more.fine (λ t q run. fine_back most (path_in m condition) q
              (safe t _ (way 0 (omega arith) t q run))))));
        }
    follow types label (branch Public condition accepted otherwise) typed among within control under s m agree =
        follow_arm types s m agree condition accepted otherwise typed.0 (removed_all within control accepted)
        (removed_all within control otherwise)
        (narrowed types _ (types_kept declared types label accepted typed.1)
        (follow_all types label accepted typed.1 among within control under s m agree))
        (narrowed types _ (types_kept declared types label otherwise typed.2)
        (follow_all types label otherwise typed.2 among within control under s m agree))
        (value_in m condition == 0) refl
    follow types label (loop x low high body) typed among within control under s m agree =
        let inner = with_type types x (word_as counter_type false) in
        let from = public_value types s.variables m agree typed.0 refl in
        let to = public_value types s.variables m agree typed.1 refl in
        let iteration : ℕ → StraightState → StraightState =
        λ i t. after_all (counted x i t) (removed_all within control body) in
        let along : ℕ → StraightState → Path = λ i t. path_along (counted x i t) (removed_all within control body) in
        let made = follow_iterations types x body iteration along
        (λ i t n so_far. narrowed types _
        (λ y d known. types_kept declared inner label body typed.3 y d (stays_beside types x _ typed.2.new y d known))
        (follow_all inner label body typed.3 (among_beside profile declared types x _ typed.2.listed among)
        within control under (counted x i t) (with_value n x (i ∷ []))
        (declared_in_both what_is_public types t.variables n x (i ∷ []) (i ∷ []) (word_as counter_type false)
        (λ public. refl) so_far)))
        (value_in m high - value_in m low) (value_in m low) s m agree in
        let bounds : Path = path_in m low ++ path_in m high in
        let mark = bounded x (value_in m low) (value_in m high) in
        record {
          end = made.end;
          path = bounds ++ mark ∷ made.path;
          runs = repeats (comes all m low) (comes all m high) made.runs;
          agree = rw (sym (ap₂ (λ l h. iterations (h - l) l iteration s) from to)) at made.agree;
          fine = λ safe.
              let whole = safe made.end _ (repeats (comes all m low) (comes all m high) made.runs) in
              let ends = fine_front most bounds (mark ∷ made.path) whole in
              fine_alone most _
              (fine_both most (path_in s.variables low ++ path_in s.variables high) _
              (fine_both most (path_in s.variables low) (path_in s.variables high)
              (fine_term types s m agree low typed.0 (fine_front most (path_in m low) (path_in m high) ends))
              (fine_term types s m agree high typed.1 (fine_back most (path_in m low) (path_in m high) ends)))
              (subst (AreFine most) (sym (ap₂ (λ (l h : ℕ). bounded x l h ∷ path_of_iterations
              (h - l) l iteration along s)
              from to)) (
                (fine_back most bounds (mark ∷ made.path) whole).0,
                made.fine (λ t q run. (fine_back most bounds (mark ∷ q)
                    (safe t _ (repeats (comes all m low) (comes all m high) run))).1),
              )));
        }

    pub follow_all : (types : Types) (label : Label) (body : FlatBlock) → AreTyped declared types label body
        → AreAmong types all → (within : Option ℕ) (control : ℕ) → IsUnder within label
        → (s : StraightState) (m : Values) → Agree what_is_public types s.variables m
        → Beside (LooselyLeadAll all m body) (types_after_all types body)
        (after_all s (removed_all within control body)) (path_along s (removed_all within control body))
    follow_all types label nothing typed among within control under s m agree =
        record { end = m; path = []; runs = ends; agree = agree; fine = λ safe. tt }
    follow_all types label (first statement rest) typed among within control under s m agree =
        let code : StraightBlock = removed within control statement in
        let one = follow types label statement typed.0 among within control under s m agree in
        let more = follow_all (types_after types statement) label rest typed.1
        (among_after profile declared types label statement typed.0 among) within control under in
        rw (after-chain s code (removed_all within control rest), path-chain s code (removed_all within control rest))
        (both_beside {Rest = λ t. LooselyLeadAll all t rest} (λ t o p q run onward. goes_on run onward)
        (λ t. let next = more (holding t) t (λ y d known public. refl) in (next.end, next.path, next.runs))
        one (more (after_all s code) one.end one.agree))
