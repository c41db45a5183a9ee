-- A program on arguments that differ only in the arrays that it sets whole: one after the other they are made the same.
use Rattle.std.proofs.Common.{◌≡◌, ℕ, zero, suc, ◌+◌, ◌<◌, ◌≤◌, ◌&&◌, ◌++◌, Bool, true, false, nat_lt, List, [], ◌∷◌}
use Rattle.std.proofs.Common.{length, map}
use Rattle.std.proofs.Common.{replicate, take, drop, Option, None, Some, refl, sym, ap, ap₂, ◌∙◌, subst, arith, min}
use Rattle.std.proofs.Math.Path.{fun_ext}
use Rattle.std.proofs.lemmas.Bool.{and_parts, false≢true}
use Rattle.std.proofs.lemmas.Option.{none-some}
use Rattle.std.proofs.lemmas.List.{append_assoc, length-append, length-map, length-take}
use Rattle.language.specs.arguments.Within.{AreWithin, HasShape, IsWithin, words_of}
use Rattle.language.specs.declared.signature.Form.{Form}
use Rattle.language.specs.declared.signature.Form.TheVariants.{FixedArray, MutableArray, SingleWord}
use Rattle.language.specs.declared.values.Arg.TheVariants.{Array, Word}
use Rattle.language.specs.Types.{is_number}
use Rattle.variable_room.specs.Below.{Arg, declaration_of, end_of, FlatVariable, given, is_mutable, IsTypedStraight}
use Rattle.variable_room.specs.Below.{outcome_of, Param, Path, path_along, path_of, path_of_result, results_of, start}
use Rattle.variable_room.specs.Below.{StraightProgram, Values}
use Rattle.variable_room.specs.set_whole.Watching.{all_set, Flags, watched_all}
use Rattle.variable_room.specs.set_whole.Whole.{AgreeBut, are_all_set, is_candidate, set_whole_from, sets_whole}
use Rattle.variable_room.specs.set_whole.Whole.{watch_in}
use Rattle.variable_room.proofs.set_whole_lemmas.FlagLemmas.{same_nowhere}
use Rattle.variable_room.proofs.set_whole_lemmas.Watched.{all_agree, all_follow}

-- What parameters hold.

given_here : (ds : List FlatVariable) (done : List Arg) (a : Arg) (args : List Arg) → length done < length ds
    → given ds (done ++ a ∷ args) (length done) ≡ words_of a
given_here [] done a args less = absurd (omega (arith, less))
given_here (d ∷ ds) [] a args less = refl
given_here (d ∷ ds) (b ∷ done) a args less = given_here ds done a args (omega (arith, less))

given_beside : (ds : List FlatVariable) (done : List Arg) (a b : Arg) (args : List Arg) (y : ℕ)
    → (y ≡ length done → ⊥) → given ds (done ++ a ∷ args) y ≡ given ds (done ++ b ∷ args) y
given_beside [] done a b args y apart = refl
given_beside (d ∷ ds) [] a b args zero apart = absurd (apart refl)
given_beside (d ∷ ds) [] a b args (suc y) apart = refl
given_beside (d ∷ ds) (c ∷ done) a b args zero apart = refl
given_beside (d ∷ ds) (c ∷ done) a b args (suc y) apart = given_beside ds done a b args y (λ e. apart (ap suc e))

shape_count : (form : Form) (n : ℕ) (arg : Arg) → is_mutable form ≡ true → HasShape form n arg
    → length (words_of arg) ≡ n
shape_count SingleWord n arg is shape = absurd (false≢true is)
shape_count FixedArray n arg is shape = absurd (false≢true is)
shape_count MutableArray n (Word word) is shape = absurd shape
shape_count MutableArray n (Array words) is shape = shape

-- there are no fewer variables than parameters
parameters_below : (p : StraightProgram) → IsTypedStraight p → length p.parameters ≤ length p.declared
parameters_below p typed =
    let same = sym (length-take (length p.parameters) p.declared)
    ∙ (ap length typed.parameters ∙ length-map p.parameters declaration_of) in
    omega (arith, same)

-- One array.

all_set_of : (o : Option Flags) → are_all_set o ≡ true → (flags : Flags) × (o ≡ Some flags) × (all_set flags ≡ true)
all_set_of None is = absurd (false≢true is)
all_set_of (Some flags) is = (flags, refl, is)

-- two lists of arguments lead to the same
abbrev pub AreEqual : StraightProgram → List Arg → List Arg → Type 0
AreEqual p args others = (outcome_of p args ≡ outcome_of p others) × (path_of p args ≡ path_of p others)

one_array : (p : StraightProgram) (x count : ℕ) (args others : List Arg) → sets_whole p x count ≡ true
    → ((y : ℕ) → (y ≡ x → ⊥) → given p.declared args y ≡ given p.declared others y)
    → length (given p.declared args x) ≡ count → length (given p.declared others x) ≡ count
    → AreEqual p args others
one_array p x count args others whole beside one other =
    let answer = all_set_of (watched_all (watch_in p x) (replicate count false) p.body) whole in
    let run = all_follow (watch_in p x) (replicate count false) answer.0 p.body
    {s = start p args} {u = start p others} answer.1 (record {
      others = beside;
      array = same_nowhere count (given p.declared args x) (given p.declared others x) one other;
      controls = refl;
      counters = λ y v is. absurd (none-some v is);
    }) in
    let last : end_of p args ≡ end_of p others = fun_ext (all_agree run.beside answer.2) in (
      ap (results_of p.parameters p.value) last,
      ap₂ (λ (a b : Path). a ++ b) run.path (ap (λ (m : Values). path_of_result m p.value) last),
    )

-- All of them.

module _ (p : StraightProgram) where
  -- one argument is made the same
  one_argument : (done : List Arg) (a b : Arg) (args : List Arg) (q : Param) → length done < length p.declared
      → IsWithin q a → IsWithin q b → (is_candidate (length done) q && sets_whole p (length done) q.length) ≡ true
      → AreEqual p (done ++ a ∷ args) (done ++ b ∷ args)
  one_argument done a b args q less one other is =
      let x = length done in
      let parts = and_parts (is_candidate x q) (sets_whole p x q.length) is in
      let tests = and_parts (nat_lt x 8 && is_mutable q.form) (is_number q.kind) parts.0 in
      let mutable = (and_parts (nat_lt x 8) (is_mutable q.form) tests.0).1 in
      one_array p x q.length (done ++ a ∷ args) (done ++ b ∷ args) parts.1 (given_beside p.declared done a b args)
      (ap length (given_here p.declared done a args less) ∙ shape_count q.form q.length a mutable one.shape)
      (ap length (given_here p.declared done b args less) ∙ shape_count q.form q.length b mutable other.shape)

  -- or it is the same
  any_argument : (done : List Arg) (a b : Arg) (args others : List Arg) (q : Param) (test : Bool) (whole : List Bool)
      → length done < length p.declared → IsWithin q a → IsWithin q b
      → (is_candidate (length done) q && sets_whole p (length done) q.length) ≡ test
      → AgreeBut (test ∷ whole) (a ∷ args) (b ∷ others)
      → AreEqual p (done ++ a ∷ args) (done ++ b ∷ args) × AgreeBut whole args others
  any_argument done a b args others q true whole less one other is agree =
      (one_argument done a b args q less one other is, agree)
  any_argument done a b args others q false whole less one other is agree =
      let same = ap (λ (c : Arg). done ++ c ∷ args) agree.0 in
      ((ap (outcome_of p) same, ap (path_of p) same), agree.1)

  rest_agree : (n : ℕ) (ps : List Param) (done args others : List Arg) → length done ≡ n
      → n + length ps ≤ length p.declared → AreWithin ps args → AreWithin ps others
      → AgreeBut (set_whole_from p n ps) args others → AreEqual p (done ++ args) (done ++ others)
  rest_agree n [] done [] [] count room one other agree = (refl, refl)
  rest_agree n [] done [] (b ∷ others) count room one other agree = absurd other
  rest_agree n [] done (a ∷ args) others count room one other agree = absurd one
  rest_agree n (q ∷ ps) done [] others count room one other agree = absurd one
  rest_agree n (q ∷ ps) done (a ∷ args) [] count room one other agree = absurd other
  rest_agree n (q ∷ ps) done (a ∷ args) (b ∷ others) count room one other agree =
      let here = any_argument done a b args others q (is_candidate n q && sets_whole p n q.length)
      (set_whole_from p (n + 1) ps) (omega (arith, count, room)) one.0 other.0
      (ap (λ m. is_candidate m q && sets_whole p m q.length) count) agree in
      let more : length (done ++ b ∷ []) ≡ n + 1 = omega (arith, length-append done (b ∷ []), count) in
      let rest = rest_agree (n + 1) ps (done ++ b ∷ []) args others more (omega (arith, room)) one.1 other.1 here.1 in
      let left = append_assoc done (b ∷ []) args in
      let right = append_assoc done (b ∷ []) others in (
        here.0.0 ∙ (ap (outcome_of p) (sym left) ∙ (rest.0 ∙ ap (outcome_of p) right)),
        here.0.1 ∙ (ap (path_of p) (sym left) ∙ (rest.1 ∙ ap (path_of p) right)),
      )

pub do_not_matter : (p : StraightProgram) (args others : List Arg) → IsTypedStraight p → AreWithin p.parameters args
    → AreWithin p.parameters others → AgreeBut (set_whole_from p 0 p.parameters) args others
    → AreEqual p args others
do_not_matter p args others typed one other agree =
    rest_agree p 0 p.parameters [] args others refl (omega (arith, parameters_below p typed)) one other agree
