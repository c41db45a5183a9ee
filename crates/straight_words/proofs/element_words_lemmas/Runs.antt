-- The code with words runs in step with the code: variables that stay hold the same, the words of an array its
-- elements. Its path is fine where that of the code is.
use Rattle.std.proofs.Common.{◌≡◌, ℕ, ◌+◌, List, [], ◌∷◌, map, Option, None, Some, slice_get, slice_set, refl, sym, ap}
use Rattle.std.proofs.Common.{false, ◌∙◌, arith}
use Rattle.straight_words.specs.Below.{after_all, AreTyped, array, array_as, branch, counter_type, elements, first}
use Rattle.straight_words.specs.Below.{FlatVariable, IsFilled, IsElementSet, IsTyped, nothing, Place, Profile, put}
use Rattle.straight_words.specs.Below.{repeats, set, StraightBlock, StraightState, StraightTree, take, TermTree, value_at}
use Rattle.straight_words.specs.Below.{Values, with_variable, word_as}
use Rattle.straight_words.specs.declared.element_words.parts.SplitArray.{SplitArray}
use Rattle.straight_words.specs.element_words.private.Narrowing.{narrowed_at, narrowed, narrowed_by, narrowed_by_all}
use Rattle.straight_words.specs.element_words.private.Parts.{Parts, part_of, word_in}
use Rattle.straight_words.specs.element_words.private.Splitting.{split, single, given_words, new_array, put_in, split_in}
use Rattle.straight_words.specs.element_words.private.Splitting.{split_all}
use Rattle.straight_words.proofs.element_words_lemmas.Known.{IsKnown, is_number, use_known, before_term, before_all}
use Rattle.straight_words.proofs.element_words_lemmas.PartLemmas.{IsBelow, IsSplitting}
use Rattle.straight_words.proofs.element_words_lemmas.Values.{AreAlike, AllStand, stands, all_stand, all_alike, part_size}
use Rattle.straight_words.proofs.element_words_lemmas.Values.{stays_whole}
use Rattle.straight_words.proofs.element_words_lemmas.Held.{both_set, words_set, word_set}
use Rattle.straight_words.proofs.element_words_lemmas.Given.{words_outside, words_given, words_controls, but_alike}
use Rattle.straight_words.proofs.element_words_lemmas.Given.{elements_count, elements_at}
use Rattle.straight_words.proofs.over_lemmas.Variables.{but, but_within}
use Rattle.straight_words.proofs.over_lemmas.Values.{same_path, both, alone, at_index, IsAlike}
use Rattle.straight_words.proofs.over_lemmas.Beside.{AreBeside, within_beside, taken_beside, RunsBeside, FollowsAt}
use Rattle.straight_words.proofs.over_lemmas.Beside.{branch_follows, loop_follows, then_follows}

module _ (declared new : List FlatVariable) (parts : Parts) (is_splitting : IsSplitting declared new parts) where
  abbrev at : ℕ → Option FlatVariable
  at = λ y. slice_get declared y

  abbrev same_at : (y : ℕ) (d : FlatVariable) → at y ≡ Some d → slice_get declared y ≡ Some d
  same_at = λ y d there. there

  -- two states in step
  abbrev pub InStep : Values → Values → Type 0
  InStep = AreAlike at parts

  set_both : {s t : StraightState} (x : ℕ) (d : FlatVariable) (v w : List ℕ) → at x ≡ Some d → part_of parts x ≡ None
      → w ≡ v → AreBeside InStep s t → AreBeside InStep (with_variable s x v) (with_variable t x w)
  set_both {s} {t} x d v w there whole same beside = record {
    variables = both_set declared new parts is_splitting at same_at s.variables t.variables x d v w beside.variables
        there whole same;
    controls = beside.controls;
  }

  module _ (most : List ℕ) (profile : Profile) (controls : ℕ) where
    -- a new array that stays whole, and one that becomes words
    array_follows : (x size : ℕ) (values : List TermTree) → IsFilled profile declared x size values
        → AllStand declared new parts is_splitting most profile (but declared x) (but_within declared x) values
        → (o : Option SplitArray) → part_of parts x ≡ o → {s t : StraightState} → AreBeside InStep s t
        → FollowsAt InStep most s t (array x size values) (new_array o x size (map (split parts) values))
    array_follows x size values is all None whole {s} {t} beside =
        let a = all_alike declared new parts is_splitting most profile (but declared x) (but_within declared x) values
        all (but_alike declared parts x s.variables t.variables beside.variables) in
        record {
          beside = set_both x (array_as is.word is.mutable size) _ _ is.known whole (a.filled size) beside;
          path = alone most a.path;
        }
    array_follows x size values is all (Some part) split_in_words {s} {t} beside =
        let sized = part_size declared new parts is_splitting x is.word is.mutable size part is.known split_in_words in
        let kind = part.word.kind in
        let es = map (split parts) values in
        let words = words_given declared new parts is_splitting x part split_in_words s.variables most profile values
        all part.size part.base kind t (but_alike declared parts x s.variables t.variables beside.variables) 0
        (omega arith) (omega arith) in
        record {
          beside = record {
            variables = words_set declared new parts is_splitting at same_at s.variables t.variables
                (after_all t (given_words part.base part.size kind es)).variables x part
                (elements s.variables size values) beside.variables split_in_words
                (elements_count s.variables size values is.count ∙ sym sized)
                (λ i below. words.each i (part.base + i) below refl
                ∙ ap (λ n. n ∷ []) (elements_at s.variables size i values))
                (λ z apart. words_outside part.size part.base kind es t z apart);
            controls = words_controls part.size part.base kind es t ∙ beside.controls;
          };
          path = words.path;
        }

    put_follows : (within : Option ℕ) (place : Place) (x size : ℕ) (index value : TermTree)
        → IsElementSet profile declared x size index value → (o : Option SplitArray) → part_of parts x ≡ o
        → IsKnown o index
        → {s t : StraightState} → AreBeside InStep s t
        → IsAlike most s.variables t.variables index (split parts index)
        → IsAlike most s.variables t.variables value (split parts value)
        → FollowsAt InStep most s t (put within place x size index value)
        (single (put_in (word_in o index) within place x size (split parts index) (split parts value)))
    put_follows within place x size index value is None whole used {s} {t} beside i a =
        let d = array_as is.word is.mutable size in
        let same = beside.variables.plain x d is.known whole in
        record {
          beside = within_beside InStep within beside
              (set_both x d (slice_set (s.variables x) (value_at s index) (value_at s value)) _ is.known whole
              (rw (same, i.value, a.value) refl) beside);
          path = alone most (both most i.path (at_index most place size i.value a.path));
        }
    put_follows within place x size index value is (Some part) has (is_number {value = n} below found) {s} {t} beside i
        a =
        rw found
        (record {
          beside = within_beside InStep within beside (record {
            variables = word_set declared new parts is_splitting at same_at s.variables t.variables x n
                (value_at s value) (value_at t (split parts value)) (array_as is.word is.mutable size) part
                beside.variables is.known has below a.value;
            controls = beside.controls;
          });
          path = record { fine = λ fine. (alone most a.path).fine fine.1 };
        })

    mutual
      follows : (statement : StraightTree) → IsTyped profile declared controls statement → (before : Parts)
          → IsBelow parts (narrowed_by before statement) → {s t : StraightState} → AreBeside InStep s t
          → FollowsAt InStep most s t statement (split_in parts statement)
      follows (set within x value) is before h {s} {t} beside =
          let a = stands declared new parts is_splitting most profile at same_at is.1.suits.has_type before h
          s.variables t.variables beside.variables in
          record {
            beside = within_beside InStep within beside (set_both x (word_as is.1.word is.1.mutable) _ _ is.1.known
                (stays_whole declared new parts is_splitting x is.1.word is.1.mutable is.1.known)
                (ap (λ v. v ∷ []) a.value) beside);
            path = alone most a.path;
          }
      follows (array x size values) is before h beside =
          array_follows x size values is
          (all_stand declared new parts is_splitting most profile (but declared x) (but_within declared x) is.word
          values is.suit before h) (part_of parts x) refl beside
      follows (put within place x size index value) is before h {s} {t} beside =
          let from = before_term parts value (narrowed (narrowed_at before x index) index) h in
          put_follows within place x size index value is.1 (part_of parts x) refl
          (use_known parts before x index (before_term parts index (narrowed_at before x index) from)).1 beside
          (stands declared new parts is_splitting most profile at same_at is.1.index_type (narrowed_at before x index)
          from s.variables t.variables beside.variables)
          (stands declared new parts is_splitting most profile at same_at is.1.suits.has_type
          (narrowed (narrowed_at before x index) index) h s.variables t.variables beside.variables)
      follows (take control within condition) is before h {s} {t} beside =
          let a = stands declared new parts is_splitting most profile at same_at is.2.1 before h s.variables t.variables
          beside.variables in
          record { beside = taken_beside InStep control within beside a.value; path = alone most a.path }
      follows (branch condition accepted otherwise) is before h {s} {t} beside =
          let second = before_all parts otherwise (narrowed_by_all (narrowed before condition) accepted) h in
          let one = before_all parts accepted (narrowed before condition) second in
          branch_follows InStep most
          (stands declared new parts is_splitting most profile at same_at is.0 before one s.variables t.variables
          beside.variables)
          (all_follow accepted is.1 (narrowed before condition) second beside)
          (all_follow otherwise is.2 (narrowed_by_all (narrowed before condition) accepted) h beside)
      follows (repeats x low high body) is before h {s} {t} beside =
          let second = before_all parts body (narrowed (narrowed before low) high) h in
          let one = before_term parts high (narrowed before low) second in
          loop_follows InStep most x beside
          (stands declared new parts is_splitting most profile at same_at is.0 before one s.variables t.variables
          beside.variables)
          (stands declared new parts is_splitting most profile at same_at is.1 (narrowed before low) second s.variables
          t.variables beside.variables)
          (λ i u v step. all_follow body is.3 (narrowed (narrowed before low) high) h
          (set_both x (word_as counter_type false) (i ∷ []) (i ∷ []) is.2
          (stays_whole declared new parts is_splitting x counter_type false is.2) refl step))

      pub all_follow : (body : StraightBlock) → AreTyped profile declared controls body → (before : Parts)
          → IsBelow parts (narrowed_by_all before body) → {s t : StraightState} → AreBeside InStep s t
          → RunsBeside InStep most s t body (split_all parts body)
      all_follow nothing is before h beside = record { beside = beside; path = same_path most }
      all_follow (first statement rest) is before h beside =
          let a = follows statement is.0 before (before_all parts rest (narrowed_by before statement) h) beside in
          then_follows a (all_follow rest is.1 (narrowed_by before statement) h a.beside)
