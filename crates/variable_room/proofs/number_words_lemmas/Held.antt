-- Words that hold their numbers: once they are set, and for as long as no other variable is one of them.
use Rattle.std.proofs.Common.{◌≡◌, ℕ, ◌+◌, ◌-◌, ◌≤◌, ◌<◌, ◌&&◌, Bool, true, false, if◌then◌else◌, List, [], ◌∷◌}
use Rattle.std.proofs.Common.{refl, ◌∙◌, arith}
use Rattle.std.specs.Prelude.{nat_lt}
use Rattle.variable_room.specs.Below.{after_all, path_along, StraightState, Values, with_value, with_variable}
use Rattle.inline.proofs.Face.{with_value-other, with_value-same}
use Rattle.variable_room.specs.declared.number_words.uses.NumberUse.{NumberUse}
use Rattle.variable_room.specs.declared.number_words.words.NumberWord.{NumberWord}
use Rattle.variable_room.specs.number_words.private.Plan.{chosen_from, is_worth}
use Rattle.variable_room.specs.number_words.private.Wording.{settings}

-- words one behind the other, the first of this number
abbrev pub AreNumbered : ℕ → List NumberWord → Type 0
AreNumbered n [] = Unit {0}
AreNumbered n (word ∷ words) = (word.variable ≡ n) × AreNumbered (n + 1) words

-- words behind so many variables
abbrev pub AreBehind : ℕ → List NumberWord → Type 0
AreBehind n [] = Unit {0}
AreBehind n (word ∷ words) = (n ≤ word.variable) × AreBehind n words

abbrev pub HoldTheirs : List NumberWord → Values → Type 0
HoldTheirs [] k = Unit {0}
HoldTheirs (word ∷ words) k = (k word.variable ≡ word.number.value ∷ []) × HoldTheirs words k

behind_by : (n m : ℕ) (words : List NumberWord) → n ≤ m → AreNumbered m words → AreBehind n words
behind_by n m [] less are = tt
behind_by n m (word ∷ words) less are =
    (omega (arith, are.0), behind_by n (m + 1) words (omega arith) are.1)

pub are_behind : (n : ℕ) (words : List NumberWord) → AreNumbered n words → AreBehind n words
are_behind n words are = behind_by n n words (omega arith) are

pub chosen_numbered : (next left : ℕ) (uses : List NumberUse) → AreNumbered next (chosen_from next left uses)
chosen_numbered next left [] = tt
chosen_numbered next left (each ∷ uses) =
    by_worth (is_worth each && nat_lt 0 left) (chosen_numbered (next + 1) (left - 1) uses)
    (chosen_numbered next left uses)
  where
    by_worth : (b : Bool) → AreNumbered (next + 1) (chosen_from (next + 1) (left - 1) uses)
        → AreNumbered next (chosen_from next left uses)
        → AreNumbered next (if b
        then record { number = each.number; variable = next } ∷ chosen_from (next + 1) (left - 1) uses
        else chosen_from next left uses)
    by_worth true one other = (refl, one)
    by_worth false one other = other

-- a variable that is none of them is set
pub hold_still : (n x : ℕ) (words : List NumberWord) (k : Values) (v : List ℕ) → x < n → AreBehind n words
    → HoldTheirs words k → HoldTheirs words (with_value k x v)
hold_still n x [] k v below behind hold = tt
hold_still n x (word ∷ words) k v below behind hold = (
  with_value-other k x word.variable v (λ same. omega (arith, behind.0, below, same)) ∙ hold.0,
  hold_still n x words k v below behind.1 hold.1,
)

-- Once they are set.

-- what stays as it was
pub record IsSetUp (n : ℕ) (words : List NumberWord) (s t : StraightState) : Type 0 where
  pub hold : HoldTheirs words t.variables
  pub others : (y : ℕ) → y < n → t.variables y ≡ s.variables y
  pub controls : t.controls ≡ s.controls

pub set_up : (n : ℕ) (words : List NumberWord) → AreNumbered n words → (s : StraightState)
    → IsSetUp n words s (after_all s (settings words))
set_up n [] are s = record { hold = tt; others = λ y below. refl; controls = refl }
set_up n (word ∷ words) are s =
    let v = word.number.value ∷ [] in
    let rest = set_up (n + 1) words are.1 (with_variable s word.variable v) in
    record {
      hold = (
        rest.others word.variable (omega (arith, are.0)) ∙ with_value-same s.variables word.variable v,
        rest.hold,
      );
      others = λ y below.
          rest.others y (omega arith)
          ∙ with_value-other s.variables word.variable y v (λ same. omega (arith, are.0, below, same));
      controls = rest.controls;
    }

pub no_path : (words : List NumberWord) (s : StraightState) → path_along s (settings words) ≡ []
no_path [] s = refl
no_path (word ∷ words) s = no_path words (with_variable s word.variable (word.number.value ∷ []))
