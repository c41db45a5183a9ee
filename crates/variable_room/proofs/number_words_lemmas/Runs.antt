-- The code with words for numbers runs in step with the code: its variables hold the same, and the words their numbers.
-- Its path is fine where that of the code is.
use Rattle.std.proofs.Common.{◌≡◌, ℕ, ◌<◌, ◌==◌, if◌then◌else◌, List, [], ◌∷◌, length, Some, slice_get}
use Rattle.std.proofs.Common.{false, slice_set, refl, ap, ap₂}
use Rattle.std.proofs.lemmas.Option.{slice_get_within}
use Rattle.variable_room.specs.Below.{AreTyped, array, array_as, branch, counter_type, first, FlatVariable}
use Rattle.variable_room.specs.Below.{IsTyped, nothing, Profile, put, repeats, set, StraightBlock, StraightState}
use Rattle.variable_room.specs.Below.{StraightTree, take, types_but, types_of, value_at, Values, with_variable, word_as}
use Rattle.variable_room.specs.declared.number_words.words.NumberWord.{NumberWord}
use Rattle.straight_words.specs.element_words.private.Splitting.{single}
use Rattle.variable_room.specs.number_words.private.Wording.{worded_all, worded_in}
use Rattle.variable_room.proofs.number_words_lemmas.Held.{AreBehind, hold_still}
use Rattle.variable_room.proofs.number_words_lemmas.Values.{AreAlike, stands, all_stand}
use Rattle.straight_words.proofs.over_lemmas.Variables.{but_within}
use Rattle.straight_words.proofs.over_lemmas.Values.{same_path, both, alone, at_index}
use Rattle.straight_words.proofs.over_lemmas.Beside.{AreBeside, within_beside, taken_beside, RunsBeside, FollowsAt}
use Rattle.straight_words.proofs.over_lemmas.Beside.{branch_follows, loop_follows, then_follows}

module _ (declared : List FlatVariable) (words : List NumberWord) (behind : AreBehind (length declared) words) where
  -- two states in step
  abbrev pub InStep : Values → Values → Type 0
  InStep = AreAlike (length declared) words

  set_both : {s t : StraightState} (x : ℕ) (d : FlatVariable) (v w : List ℕ) → slice_get declared x ≡ Some d
      → w ≡ v → AreBeside InStep s t → AreBeside InStep (with_variable s x v) (with_variable t x w)
  set_both {s} {t} x d v w there same beside = record {
    variables = record {
      same = λ y below. ap₂ (λ (a b : List ℕ). if y == x then a else b) same (beside.variables.same y below);
      hold = hold_still (length declared) x words t.variables w (slice_get_within declared x d there) behind
          beside.variables.hold;
    };
    controls = beside.controls;
  }

  module _ (most : List ℕ) (profile : Profile) (controls : ℕ) where
    within_all : (y : ℕ) (d : FlatVariable) → slice_get declared y ≡ Some d → y < length declared
    within_all y d there = slice_get_within declared y d there

    mutual
      follows : (statement : StraightTree) → IsTyped profile declared controls statement → {s t : StraightState}
          → AreBeside InStep s t → FollowsAt InStep most s t statement (single (worded_in words statement))
      follows (set within x value) is {s} {t} beside =
          let a = stands (length declared) words most (types_of profile declared) within_all is.1.suits.has_type
          s.variables t.variables beside.variables in
          record {
            beside = within_beside InStep within beside (set_both x (word_as is.1.word is.1.mutable) _ _ is.1.known
                (ap (λ v. v ∷ []) a.value) beside);
            path = alone most a.path;
          }
      follows (array x size values) is {s} {t} beside =
          let a = all_stand (length declared) words most (types_but profile declared x)
          (λ y d there. slice_get_within declared y d (but_within declared x y d there)) is.word values is.suit
          beside.variables in
          record {
            beside = set_both x (array_as is.word is.mutable size) _ _ is.known (a.filled size) beside;
            path = alone most a.path;
          }
      follows (put within place x size index value) is {s} {t} beside =
          let d = array_as is.1.word is.1.mutable size in
          let same = beside.variables.same x (slice_get_within declared x d is.1.known) in
          let i = stands (length declared) words most (types_of profile declared) within_all is.1.index_type
          s.variables t.variables beside.variables in
          let a = stands (length declared) words most (types_of profile declared) within_all is.1.suits.has_type
          s.variables t.variables beside.variables in
          record {
            beside = within_beside InStep within beside
                (set_both x d (slice_set (s.variables x) (value_at s index) (value_at s value)) _ is.1.known
                (rw (same, i.value, a.value) refl) beside);
            path = alone most (both most i.path (at_index most place size i.value a.path));
          }
      follows (take control within condition) is {s} {t} beside =
          let a = stands (length declared) words most (types_of profile declared) within_all is.2.1 s.variables
          t.variables beside.variables in
          record { beside = taken_beside InStep control within beside a.value; path = alone most a.path }
      follows (branch condition accepted otherwise) is {s} {t} beside =
          branch_follows InStep most
          (stands (length declared) words most (types_of profile declared) within_all is.0 s.variables t.variables
          beside.variables)
          (all_follow accepted is.1 beside)
          (all_follow otherwise is.2 beside)
      follows (repeats x low high body) is {s} {t} beside =
          loop_follows InStep most x beside
          (stands (length declared) words most (types_of profile declared) within_all is.0 s.variables t.variables
          beside.variables)
          (stands (length declared) words most (types_of profile declared) within_all is.1 s.variables t.variables
          beside.variables)
          (λ i u v step. all_follow body is.3
          (set_both x (word_as counter_type false) (i ∷ []) (i ∷ []) is.2 refl step))

      pub all_follow : (body : StraightBlock) → AreTyped profile declared controls body → {s t : StraightState}
          → AreBeside InStep s t → RunsBeside InStep most s t body (worded_all words body)
      all_follow nothing is beside = record { beside = beside; path = same_path most }
      all_follow (first statement rest) is beside =
          let a = follows statement is.0 beside in
          then_follows a (all_follow rest is.1 a.beside)
