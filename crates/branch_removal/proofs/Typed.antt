-- Straight code of a well-typed body is well typed, and what it sets under a control value is secret.
use Rattle.std.proofs.Common.{◌≡◌, ℕ, ◌+◌, ◌≤◌, false, List, Option, None, Some, refl, sym, ◌∙◌, arith}
use Rattle.std.proofs.lemmas.Option.{same_Some}
use Rattle.std.proofs.Math.Nat.{le-max_left, le-max_right}
use Rattle.branch_removal.specs.Below.{array, assign, branch, counter_type, declare, first, FlatBlock, FlatTree}
use Rattle.branch_removal.specs.Below.{FlatVariable, hold, Label, loop, nothing, Profile, Public, put, Secret, skip}
use Rattle.branch_removal.specs.Below.{Types, types_after, types_of, with_type, word_as}
use Rattle.inline.specs.FlatTyping as flat
use Rattle.branch_removal.specs.private.Removal.{removed, removed_all, controls_in, controls_in_all}
use Rattle.branch_removal.specs.Straight.{StraightTree, StraightBlock, chain}
use Rattle.branch_removal.specs.Straight as straight
use Rattle.branch_removal.specs.StraightTyping.{IsTyped, AreTyped, IsAmong, types_but, IsSecretWithin, IsHidden}
use Rattle.branch_removal.specs.StraightTyping.{AreHidden}
use Rattle.branch_removal.proofs.Scopes.{AreAmong, has_type_among, suits_among, suit_among, among_beside, among_after}
use Rattle.branch_removal.proofs.Scopes.{among_but}

-- there is a control value only under a secret condition
abbrev pub IsUnder : Option ℕ → Label → Type 0
IsUnder None label = Unit {0}
IsUnder (Some control) label = label ≡ Secret

module _ (profile : Profile) (declared : List FlatVariable) (controls : ℕ) where
  -- it is well typed, and only what is secret is set within a control value
  pub record AreStraight (code : StraightBlock) : Type 0 where
    pub typed : AreTyped profile declared controls code
    pub hidden : AreHidden declared code

  straight-chain : (these those : StraightBlock) → AreStraight these → AreStraight those
      → AreStraight (chain these those)
  straight-chain straight.nothing those one other = other
  straight-chain (straight.first statement these) those one other =
      let rest = straight-chain these those (record { typed = one.typed.1; hidden = one.hidden.1 }) other in
      record { typed = (one.typed.0, rest.typed); hidden = (one.hidden.0, rest.hidden) }

  -- one statement
  alone : (code : StraightTree) → IsTyped profile declared controls code → IsHidden declared code
      → AreStraight (straight.first code straight.nothing)
  alone code typed hidden = record { typed = (typed, tt); hidden = (hidden, tt) }

  -- an assigned variable
  set_secret : (types : Types) (label : Label) (x : ℕ) (new : FlatVariable) → AreAmong types (types_of profile declared)
      → types.at x ≡ Some new → (label ≡ Secret → new.word.label ≡ Secret)
      → (within : Option ℕ) → IsUnder within label → IsSecretWithin declared within x
  set_secret types label x new among known secret None under = tt
  set_secret types label x new among known secret (Some control) under = λ d listed.
      rw (same_Some new d (sym (among.at x new known) ∙ listed)) at (secret under)

  mutual
    pub are_straight : (types : Types) (label : Label) (statement : FlatTree)
        → flat.IsTyped declared types label statement → AreAmong types (types_of profile declared)
        → (within : Option ℕ) (control : ℕ) → IsAmong controls within → IsUnder within label
        → control + controls_in statement ≤ controls → AreStraight (removed within control statement)
    are_straight types label (declare x word mutable value) is among within control inside under free =
        alone (straight.set None x value) (
          tt,
          record {
            word = word;
            mutable = mutable;
            known = is.0.listed;
            suits = suits_among types (types_of profile declared) among word value is.1;
          },
        ) tt
    are_straight types label (array x word mutable size values) is among within control inside under free =
        alone (straight.array x size values) (record {
          word = word;
          mutable = mutable;
          known = is.0.listed;
          suit = suit_among types (types_but profile declared x) (among_but profile declared types x is.0.new among)
              word values is.1;
          count = is.2;
        }) tt
    are_straight types label (assign x value) is among within control inside under free =
        alone (straight.set within x value) (
          inside,
          record {
            word = is.word;
            mutable = _;
            known = among.at x _ is.known;
            suits = suits_among types (types_of profile declared) among is.word value is.suits;
          },
        ) (set_secret types label x _ among is.known is.hidden within under)
    are_straight types label (put place x size index value) is among within control inside under free =
        alone (straight.put within place x size index value) (
          inside,
          record {
            word = is.word;
            mutable = _;
            known = among.at x _ is.known;
            index_type = has_type_among types (types_of profile declared) among is.index_type;
            suits = suits_among types (types_of profile declared) among is.word value is.suits;
          },
        ) (set_secret types label x _ among is.known is.hidden within under)
    are_straight types label (hold x place size index) is among within control inside under free =
        alone (straight.set None x index) (
          tt,
          record {
            word = counter_type;
            mutable = false;
            known = is.0.listed;
            suits = record {
              word = counter_type;
              has_type = has_type_among types (types_of profile declared) among is.1;
              kind = refl;
              label = λ public. refl;
            };
          },
        ) tt
    are_straight types label skip is among within control inside under free = record { typed = tt; hidden = tt }
    are_straight types label (branch Secret condition accepted otherwise) is among within control inside under free =
        let left = le-max_left (controls_in_all accepted) (controls_in_all otherwise) in
        let right = le-max_right (controls_in_all accepted) (controls_in_all otherwise) in
        let arms = straight-chain (removed_all (Some control) (control + 2) accepted)
        (removed_all (Some (control + 1)) (control + 2) otherwise)
        (all_straight types Secret accepted is.1 among (Some control) (control + 2) (omega (arith, free)) refl
        (omega (arith, free, left)))
        (all_straight types Secret otherwise is.2 among (Some (control + 1)) (control + 2) (omega (arith, free)) refl
        (omega (arith, free, right))) in
        record {
          typed = (
            (omega (arith, free), inside, (Secret, has_type_among types (types_of profile declared) among is.0)),
            arms.typed,
          );
          hidden = (tt, arms.hidden);
        }
    are_straight types label (branch Public condition accepted otherwise) is among within control inside under free =
        let left = le-max_left (controls_in_all accepted) (controls_in_all otherwise) in
        let right = le-max_right (controls_in_all accepted) (controls_in_all otherwise) in
        let one = all_straight types label accepted is.1 among within control inside under
        (omega (arith, free, left)) in
        let other = all_straight types label otherwise is.2 among within control inside under
        (omega (arith, free, right)) in
        alone _ (has_type_among types (types_of profile declared) among is.0, one.typed, other.typed)
        (one.hidden, other.hidden)
    are_straight types label (loop x low high body) is among within control inside under free =
        let inner = all_straight (with_type types x (word_as counter_type false)) label body is.3
        (among_beside profile declared types x _ is.2.listed among) within control inside under free in
        alone _ (
          has_type_among types (types_of profile declared) among is.0,
          has_type_among types (types_of profile declared) among is.1,
          is.2.listed,
          inner.typed,
        ) inner.hidden

    pub all_straight : (types : Types) (label : Label) (body : FlatBlock) → flat.AreTyped declared types label body
        → AreAmong types (types_of profile declared)
        → (within : Option ℕ) (control : ℕ) → IsAmong controls within → IsUnder within label
        → control + controls_in_all body ≤ controls → AreStraight (removed_all within control body)
    all_straight types label nothing is among within control inside under free = record { typed = tt; hidden = tt }
    all_straight types label (first statement rest) is among within control inside under free =
        let left = le-max_left (controls_in statement) (controls_in_all rest) in
        let right = le-max_right (controls_in statement) (controls_in_all rest) in
        straight-chain (removed within control statement) (removed_all within control rest)
        (are_straight types label statement is.0 among within control inside under (omega (arith, free, left)))
        (all_straight (types_after types statement) label rest is.1
        (among_after profile declared types label statement is.0 among) within control inside under
        (omega (arith, free, right)))
